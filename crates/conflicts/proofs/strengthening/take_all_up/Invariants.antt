use Rattle.std.proofs.Common.{List}
use Rattle.incompatibilities.specs.Stores.{EntryView, entries_view}
use Rattle.propagation.specs.Promises.{IsTrail}
use Rattle.propagation.specs.Trails.{trail_view}
use Rattle.conflicts.specs.Resolving.{HasRoom, IsGained}
use Rattle.conflicts.proofs.strengthening.take_all_up.Given as goal

abbrev pub invariant-places : goal.invariant-places
invariant-places g l = let tests = g.S.States.tests in record {
  gained : (gained : List EntryView) × IsGained (entries_view tests l.fn.store) (trail_view tests l.trail)
      (entries_view tests l.store) gained;
  trail : IsTrail (entries_view tests l.store) (trail_view tests l.trail);
  room : HasRoom l.first (trail_view tests l.trail) (entries_view tests l.store);
}
