-- What an origin and the terms of a step stand for, whatever stands for the vertices (the layout is this project's).
use Rattle.std.specs.Prelude.{List}
use Rattle.model.specs.Axioms.{Term}
use Rattle.model.specs.Derivation.{Step, given, combine}
use Rattle.model.specs.Vertices.{Vertex}
use Rattle.vertices.specs.Texts.{kind_view}
use Rattle.derivations.specs.declared.step.Origin.{Origin}
use Rattle.derivations.specs.declared.step.Origin.TheVariants.{Axiom, Combination}

abbrev pub step_from : {V : Type 0} → (V → Vertex) → Origin V → List Term → Step
step_from view (Axiom k) ts = given (kind_view k) ts
step_from view (Combination a b v) ts = combine a b (view v) ts
