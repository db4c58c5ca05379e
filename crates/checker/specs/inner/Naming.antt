-- What is gathered of what steps name (the layout is this project's).
use Rattle.std.specs.Prelude.{◌≡◌, ℕ, ◌<◌, List, map, length, string_bytes}
use Rattle.std.specs.List.{AllByRecursion}
use Rattle.derivations.specs.inner.Tables.{TablesView}
use Rattle.derivations.specs.declared.step.Term.{Term}
use Rattle.derivations.specs.declared.step.Step.{Step}
use Rattle.checker.specs.inner.Names.{AreSets, AreTexts, IsMade}
use Rattle.checker.specs.declared.naming.Naming.{Naming}

abbrev pub texts_of : Naming → List (List ℕ)
texts_of d = map string_bytes d.texts.items

pub record IsNaming (t : TablesView) (d : Naming) : Type 0 where
  pub tables : d.tables.now ≡ t
  pub texts : AreTexts t (texts_of d)
  pub sets : AreSets t d.sets.items

abbrev pub IsNamed : TablesView → Naming → Term → Type 0
IsNamed t d term = (term.vertex < length d.texts.items) × IsMade t d.sets.items term.states

abbrev pub AreNamed : TablesView → Naming → List Term → Type 0
AreNamed t d terms = AllByRecursion (IsNamed t d) terms

abbrev pub AreNamedSteps : TablesView → Naming → List Step → Type 0
AreNamedSteps t d steps = AllByRecursion (λ s. AreNamed t d s.terms.items) steps

-- what was named stays so
pub record IsGrown (t : TablesView) (old new : Naming) : Type 0 where
  pub sound : IsNaming t new
  pub stays : (term : Term) → IsNamed t old term → IsNamed t new term
