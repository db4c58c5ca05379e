use Rattle.std.proofs.Common.{length, ◌-◌, ◌+◌}
use Rattle.guiding.proofs.order.reach.Given as goal

abbrev pub decreases-vertices : goal.decreases-vertices
decreases-vertices g l = l.vertex + 1 - length l.values.items
