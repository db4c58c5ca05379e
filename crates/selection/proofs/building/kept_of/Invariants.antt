use Rattle.catalogue.specs.Problems.{problem_in}
use Rattle.selection.specs.inner.Contents.{AreKept, placed_views, owners_of}
use Rattle.selection.proofs.building.kept_of.Given as goal

-- the packages of the places so far
abbrev pub invariant-places : goal.invariant-places
invariant-places l = AreKept (problem_in l.manifest l.catalogue) (owners_of l.catalogue l.versions) l.here l.place
    (placed_views l.kept.items)
