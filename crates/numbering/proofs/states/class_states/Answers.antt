use Rattle.std.proofs.Common.{List, ◌∷◌, map, sym, ap, ◌∙◌}
use Rattle.classes.specs.Classes.{class_view}
use Rattle.classes.specs.declared.class.Class.{Class}
use Rattle.model.specs.Vertices.{absent, in_class}
use Rattle.numbering.specs.inner.KnownProblem.{problem}
use Rattle.numbering.proofs.Stated.{classes_space}
use Rattle.numbering.proofs.Tested.{map_map}
use Rattle.vertices.specs.inner.RefViews.{owner_ref_view}
use Rattle.numbering.proofs.states.class_states.Goals as goal

pub returns : goal.returns
returns c =
    c.in_ok-states.ensures
    ∙ ap (λ (ks : List Class). absent ∷ map (λ k. in_class (class_view k)) ks) c.as_slice.ensures.value
    ∙ ap (λ ss. absent ∷ ss)
    (sym (map_map in_class class_view c.in_ok-classes.classes.items) ∙ ap (map in_class) c.in_ok-classes.ensures)
    ∙ classes_space (problem c.args.known.now) (owner_ref_view c.args.owner.now) c.args.dependency
