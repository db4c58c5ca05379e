-- What is made before the decision of a step (the layout is this project's).
use Rattle.std.specs.Prelude.{◌≡◌, ℕ, List, ⊤}
use Rattle.model.specs.Content.{Problem}
use Rattle.model.specs.Axioms.{Term}
use Rattle.vertices.specs.Texts.{kind_view}
use Rattle.model.specs.inner.Instances.{is_instance}
use Rattle.derivations.specs.inner.Tables.{TablesView, terms_at}
use Rattle.derivations.specs.declared.step.Origin.{Origin}
use Rattle.derivations.specs.declared.step.Origin.TheVariants.{Axiom, Combination}
use Rattle.derivations.specs.declared.step.Step.{Step}
use Rattle.checker.specs.declared.preparing.Prepared.{Prepared}
use Rattle.checker.specs.declared.preparing.Prepared.TheVariants as prepared

-- of an axiom: whether the terms are an instance of it
abbrev pub IsPreparedBy : Problem → List Term → Origin ℕ → Prepared → Type 0
IsPreparedBy q ts (Axiom k) (prepared.Axiom is_right) = is_right ≡ is_instance q (kind_view k) ts
IsPreparedBy q ts (Axiom k) prepared.Combination = ⊥
IsPreparedBy q ts (Combination a b v) p = ⊤

abbrev pub IsPrepared : Problem → TablesView → Step → Prepared → Type 0
IsPrepared q t s p = IsPreparedBy q (terms_at t s.terms.items) s.origin p
