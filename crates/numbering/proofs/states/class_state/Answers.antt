use Rattle.std.proofs.Common.{List, [], ◌∷◌, map, slice_get, ap, ◌∙◌}
use Rattle.std.specs.Prelude.{unwrap_or}
use Rattle.classes.specs.Classes.{class_view}
use Rattle.classes.specs.declared.class.Class.{Class}
use Rattle.features.specs.Views.{dependency_view}
use Rattle.model.specs.Vertices.{absent, dep_classes, in_class}
use Rattle.model.specs.inner.Listed.{classes_if}
use Rattle.numbering.specs.inner.KnownProblem.{problem}
use Rattle.vertices.specs.inner.RefViews.{owner_ref_view}
use Rattle.numbering.proofs.Stated.{classes_are_states}
use Rattle.numbering.proofs.states.class_state.Goals as goal

pub returns-in_default : goal.returns-in_default
returns-in_default c =
    c.class_at.ensures ∙ classes_are_states (problem c.args.known.now)
    (owner_ref_view c.args.owner.now) c.args.dependency [] c.args.number
    (ap (classes_if (problem c.args.known.now)) c.in_default.ensures)

pub returns-in-Some-classes : goal.returns-in-Some-classes
returns-in-Some-classes c =
    let q = problem c.args.known.now in
    let d = dependency_view c.in-Some.dependency.now in
    c.class_at-in-Some-classes.ensures
    ∙ classes_are_states q (owner_ref_view c.args.owner.now) c.args.dependency c.in-Some-classes.classes.now
    c.args.number (c.in-Some-classes.ensures ∙ ap (λ p. dep_classes p d) c.args.known.now.matched_there
    ∙ ap (classes_if q) c.in-Some.ensures)

pub returns : goal.returns
returns c =
    let q = problem c.args.known.now in
    let n = c.args.number in
    c.class_at-2.ensures ∙ ap (λ (ks : List Class).
    unwrap_or (slice_get (absent ∷ map (λ k. in_class (class_view k)) ks) n) absent) c.as_slice.ensures.value
    ∙ classes_are_states q (owner_ref_view c.args.owner.now) c.args.dependency c.in_ok-classes.classes.items n
    (c.in_ok-classes.ensures ∙ ap (classes_if q) c.in-Some.ensures)
