-- Steps of which all is at hand that their numbers stand for (the layout is this project's).
use Rattle.std.specs.Prelude.{ℕ, ◌<◌, List, length, Option, Some, None, ⊤}
use Rattle.std.specs.List.{AllByRecursion}
use Rattle.std.specs.List.Sorted.{IsStrictlySortedBy}
use Rattle.derivations.specs.inner.Derivations.{term_cmp}
use Rattle.derivations.specs.inner.Tables.{TablesView, terms_at, IsOriginOf}
use Rattle.derivations.specs.declared.step.Term.{Term}
use Rattle.derivations.specs.declared.step.Step.{Step}
use Rattle.checker.specs.inner.Names.{IsMade}
use Rattle.checker.specs.declared.names.Names.{Names}

abbrev pub tables_of : Names → TablesView
tables_of d = d.tables.now

abbrev pub IsReady : Names → Term → Type 0
IsReady d term = (term.vertex < length d.ranks.items) × IsMade (tables_of d) d.sets.items term.states

-- a set that is at hand, if one is named
abbrev pub IsSetIf : Names → Option ℕ → Type 0
IsSetIf d None = ⊤
IsSetIf d (Some n) = IsMade (tables_of d) d.sets.items n

-- in the written order too
abbrev pub AreReady : Names → List Term → Type 0
AreReady d terms = AllByRecursion (IsReady d) terms × IsStrictlySortedBy term_cmp (terms_at (tables_of d) terms)

abbrev pub IsReadyStep : Names → Step → Type 0
IsReadyStep d s = IsOriginOf (tables_of d) s.origin × AreReady d s.terms.items

abbrev pub AreReadySteps : Names → List Step → Type 0
AreReadySteps d ss = AllByRecursion (IsReadyStep d) ss
