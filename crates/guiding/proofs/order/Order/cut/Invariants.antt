use Rattle.std.proofs.Common.{length}
use Rattle.guiding.proofs.order.Order.cut.Given as goal

abbrev pub decreases-taken : goal.decreases-taken
decreases-taken l = length l.self.taken.items
