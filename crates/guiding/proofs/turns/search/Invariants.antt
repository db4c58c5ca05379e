use Rattle.std.proofs.Common.{◌+◌}
use Rattle.incompatibilities.specs.Stores.{entries_view}
use Rattle.propagation.specs.Trails.{trail_view}
use Rattle.guiding.specs.inner.Counting.{HasCounted}
use Rattle.incompatibilities.specs.inner.Counts.{combinations}
use Rattle.guiding.specs.inner.Searching.{HasSpaces, IsCaught, IsSearching, IsSeen, space}
use Rattle.guiding.specs.inner.Following.{AreGiven, KeepsFollowed}
use Rattle.guiding.proofs.turns.search.Given as goal

abbrev pub invariant-turns : goal.invariant-turns
invariant-turns g l = let tests = g.S.States.tests in record {
  searching : IsSearching (g.G.Guide.late l.guide) (entries_view tests l.store) (trail_view tests l.trail) l.progress;
  caught : IsCaught (g.G.Guide.asked l.guide) (trail_view tests l.trail);
  seen : IsSeen (g.G.Guide.seen l.guide) (g.G.Guide.asked l.guide) (trail_view tests l.trail);
  spaces : HasSpaces (g.G.Guide.spaces l.guide) (trail_view tests l.trail);
  counted : HasCounted (combinations (entries_view tests l.store))
      (combinations (entries_view tests l.fn.store)) l.steps;
  keeps : g.G.Guide.keeps l.fn.guide l.guide;
  given : AreGiven (g.G.Guide.given l.fn.guide) (entries_view tests l.fn.store)
      → AreGiven (g.G.Guide.given l.guide) (entries_view tests l.store);
  stored : g.G.Guide.stored l.fn.guide (entries_view tests l.fn.store)
      → g.G.Guide.stored l.guide (entries_view tests l.store);
  follows : KeepsFollowed (g.G.Guide.follows l.fn.guide) (entries_view tests l.fn.store) (trail_view tests l.fn.trail)
      (g.G.Guide.follows l.guide) (entries_view tests l.store) (trail_view tests l.trail);
}

abbrev pub decreases-turns : goal.decreases-turns
decreases-turns g l = space (g.G.Guide.late l.guide) (trail_view g.S.States.tests l.trail) + g.G.Guide.left l.guide
