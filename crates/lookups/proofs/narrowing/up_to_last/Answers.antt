use Rattle.features.specs.Views.{requirement_view}
use Rattle.lookups.proofs.Narrowed.{too_new_fails}
use Rattle.lookups.proofs.narrowing.up_to_last.Goals as goal

pub versions-init : goal.versions-init
versions-init c = (
  c.old_enough-count.ensures.few,
  too_new_fails (requirement_view c.args.requirement.now) c.args.versions.now c.old_enough-count.result
      c.old_enough-count.ensures.place,
)
