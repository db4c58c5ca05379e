use Rattle.std.proofs.Common.{◌≡◌, ◌++◌, drop, map}
use Rattle.std.specs.List.{flat_map}
use Rattle.classes.specs.Classes.{class_view}
use Rattle.features.specs.Views.{dependency_view}
use Rattle.numbering.specs.inner.CausesAt.{overtaken_if}
use Rattle.numbering.specs.GivenViews.{cause_views}
use Rattle.numbering.specs.inner.KnownProblem.{problem}
use Rattle.vertices.specs.inner.RefViews.{owner_ref_view}
use Rattle.numbering.proofs.newest.put_newest_in.Given as goal

-- the causes so far, with those of the classes that are left, are all
abbrev pub invariant-classes : goal.invariant-classes
invariant-classes l =
    let f = overtaken_if (problem l.known) (owner_ref_view l.lead.owner) l.lead.number (class_view l.lead.class)
    (dependency_view l.dependency) l.number in
    cause_views l.causes.items ++ flat_map f (map class_view (drop l.class-index l.classes))
    ≡ cause_views l.fn.causes.items ++ flat_map f (map class_view l.classes)
