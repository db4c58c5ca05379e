use Rattle.std.proofs.Common.{◌≡◌, ◌++◌, drop}
use Rattle.std.specs.List.{flat_map}
use Rattle.classes.specs.Classes.{class_view}
use Rattle.numbering.specs.inner.AskedFor.{both_of, noted_views}
use Rattle.numbering.specs.GivenViews.{cause_views}
use Rattle.numbering.specs.inner.KnownProblem.{problem}
use Rattle.vertices.specs.inner.RefViews.{owner_ref_view}
use Rattle.numbering.proofs.newest.put_both.Given as goal

-- the causes so far, with those of the numbers that are left, are all
abbrev pub invariant-those : goal.invariant-those
invariant-those l =
    let f = both_of (problem l.known) (owner_ref_view l.lead.owner) l.lead.number (class_view l.lead.class) in
    cause_views l.causes.items ++ flat_map f (noted_views (drop l.number-index l.those))
    ≡ cause_views l.fn.causes.items ++ flat_map f (noted_views l.those)
