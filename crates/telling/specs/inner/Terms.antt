-- The terms of the steps of a derivation.
use Rattle.std.specs.Prelude.{List, [], Option, Some, None}
use Rattle.std.specs.List.Sorted.{IsStrictlySortedBy}
use Rattle.model.specs.Axioms as axioms
use Rattle.model.specs.Derivation as steps
use Rattle.vertices.specs.Orders.{state_cmp}
use Rattle.derivations.specs.inner.Tables.{TablesView, states_at, set_at, IsTermOf}
use Rattle.derivations.specs.declared.step.Term.{Term}

abbrev pub terms_if : Option steps.Step → List axioms.Term
terms_if None = []
terms_if (Some s) = steps.terms_of s

-- numbers that the tables have, of states in order
abbrev pub IsOrderedTerm : TablesView → Term → Type 0
IsOrderedTerm t term = IsTermOf t term × IsStrictlySortedBy state_cmp (states_at t (set_at t term.states))
