use Rattle.features.specs.Views.{requirement_view}
use Rattle.lookups.proofs.Narrowed.{too_old_fails}
use Rattle.lookups.proofs.narrowing.before_first.Goals as goal

pub versions-init : goal.versions-init
versions-init c = (
  c.too_old-count.ensures.few,
  too_old_fails (requirement_view c.args.requirement.now) c.args.versions.now c.too_old-count.result
      c.too_old-count.ensures.place,
)
