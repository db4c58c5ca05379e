use Rattle.std.proofs.Common.{length, ◌-◌}
use Rattle.guiding.proofs.order.Order.follow.Given as goal

abbrev pub decreases-places : goal.decreases-places
decreases-places g l = length l.trail.steps.items - l.self.followed
