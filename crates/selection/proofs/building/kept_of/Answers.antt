use Rattle.std.proofs.Common.{refl}
use Rattle.catalogue.specs.Problems.{problem_in}
use Rattle.selection.specs.inner.Contents.{placed_views, owners_of}
use Rattle.selection.proofs.Built.{more_kept}
use Rattle.selection.proofs.building.kept_of.Goals as goal

pub places-preserved : goal.places-preserved
places-preserved c =
    more_kept (problem_in c.args.manifest.now c.args.catalogue.now) (owners_of c.args.catalogue.now c.args.versions.now)
    c.args.here.now c.places.place (placed_views c.places.kept.items) _ _ _
    c.places.invariant refl c.in_ok-found.ensures c.in_ok-keep.ensures
