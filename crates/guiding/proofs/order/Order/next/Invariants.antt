use Rattle.std.specs.BinaryHeap.{heap_len}
use Rattle.guiding.proofs.order.Order.next.Given as goal

abbrev pub decreases-candidates : goal.decreases-candidates
decreases-candidates g l = heap_len l.self.candidates
