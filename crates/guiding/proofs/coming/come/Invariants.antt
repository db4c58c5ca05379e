use Rattle.std.proofs.Common.{length, map, ◌-◌}
use Rattle.incompatibilities.specs.Stores.{entries_view}
use Rattle.propagation.specs.Promises.{IsTrail}
use Rattle.propagation.specs.Trails.{trail_view}
use Rattle.guiding.specs.inner.Guides.{IsCome, IsEncoding}
use Rattle.guiding.proofs.coming.come.Given as goal

abbrev pub invariant-vertices : goal.invariant-vertices
invariant-vertices g l = let tests = g.S.States.tests in record {
  encoding : IsEncoding l.known l.table (map tests l.asked.items);
  came : IsCome (map tests l.fn.asked.items) (map tests l.asked.items) (trail_view tests l.fn.trail)
      (trail_view tests l.trail);
  trail : IsTrail (entries_view tests l.store) (trail_view tests l.trail);
}

abbrev pub decreases-vertices : goal.decreases-vertices
decreases-vertices g l = length l.table - length l.asked.items
