-- Steps by numbers whose terms and states are in the written order (the format is this project's).
use Rattle.std.specs.Prelude.{List}
use Rattle.std.specs.List.{AllByRecursion}
use Rattle.std.specs.List.Sorted.{IsStrictlySortedBy}
use Rattle.derivations.specs.inner.Derivations.{term_cmp}
use Rattle.vertices.specs.Orders.{state_cmp}
use Rattle.derivations.specs.inner.Tables.{TablesView, states_at, set_at, terms_at, IsTermOf, IsOriginOf}
use Rattle.derivations.specs.declared.step.Term.{Term}
use Rattle.derivations.specs.declared.step.Step.{Step}

-- numbers that the tables have, of states in order
abbrev pub IsOrderedTerm : TablesView → Term → Type 0
IsOrderedTerm t term = IsTermOf t term × IsStrictlySortedBy state_cmp (states_at t (set_at t term.states))

-- terms in order, none twice
abbrev pub AreOrderedTerms : TablesView → List Term → Type 0
AreOrderedTerms t terms = AllByRecursion (IsOrderedTerm t) terms × IsStrictlySortedBy term_cmp (terms_at t terms)

abbrev pub IsOrderedStep : TablesView → Step → Type 0
IsOrderedStep t s = IsOriginOf t s.origin × AreOrderedTerms t s.terms.items

abbrev pub AreOrderedSteps : TablesView → List Step → Type 0
AreOrderedSteps t ss = AllByRecursion (IsOrderedStep t) ss
