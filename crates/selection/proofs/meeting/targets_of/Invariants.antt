use Rattle.features.specs.Views.{dependency_views}
use Rattle.selection.specs.inner.Met.{AreOrders}
use Rattle.selection.proofs.PickedTargets.{TargetsTo}
use Rattle.selection.proofs.meeting.targets_of.Given as goal

-- the targets of the dependencies so far; the orders that are kept are right
abbrev pub invariant-dependencies : goal.invariant-dependencies
invariant-dependencies l = TargetsTo l.catalogue l.all l.asked l.fn.versions.keys l.versions.keys
    (dependency_views l.dependencies) l.number l.targets.items
    × AreOrders l.catalogue l.orders
