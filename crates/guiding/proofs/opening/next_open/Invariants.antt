use Rattle.std.proofs.Common.{length, map, ◌-◌}
use Rattle.propagation.specs.Trails.{trail_view}
use Rattle.guiding.specs.inner.Searching.{IsSeen}
use Rattle.guiding.specs.inner.Guides.{asked_of}
use Rattle.guiding.proofs.opening.next_open.Given as goal

abbrev pub invariant-places : goal.invariant-places
invariant-places g l = IsSeen l.seen (asked_of (map g.S.States.tests l.asked)) (trail_view g.S.States.tests l.trail)

abbrev pub decreases-places : goal.decreases-places
decreases-places g l = length l.trail.steps.items - l.seen
