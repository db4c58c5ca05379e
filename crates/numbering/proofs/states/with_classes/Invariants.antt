use Rattle.std.proofs.Common.{◌≡◌, ◌++◌, ◌∷◌, drop, map}
use Rattle.classes.specs.Classes.{class_view}
use Rattle.model.specs.Vertices.{absent, in_class}
use Rattle.vertices.specs.inner.RefViews.{state_ref_views}
use Rattle.numbering.proofs.states.with_classes.Given as goal

-- the states so far, with those of the classes that are left, are all
abbrev pub invariant-classes : goal.invariant-classes
invariant-classes l = state_ref_views l.states.items ++ map (λ k. in_class (class_view k))
    (drop l.class-index l.classes) ≡ absent ∷ map (λ k. in_class (class_view k)) l.classes
