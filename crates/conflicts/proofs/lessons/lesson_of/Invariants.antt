use Rattle.std.proofs.Common.{List}
use Rattle.terms.specs.Terms.{terms_view}
use Rattle.incompatibilities.specs.Stores.{EntryView, entries_view}
use Rattle.propagation.specs.Promises.{IsTrail}
use Rattle.propagation.specs.Trails.{trail_view}
use Rattle.conflicts.specs.Resolving.{HasRoom, IsGained, IsLesson, places_left}
use Rattle.conflicts.proofs.lessons.lesson_of.Given as goal

abbrev pub invariant-steps : goal.invariant-steps
invariant-steps g l = let tests = g.S.States.tests in record {
  lesson : IsLesson (entries_view tests l.store) (trail_view tests l.trail)
      (terms_view tests l.lesson.incompatibility) l.lesson.chain l.lesson.found;
  gained : (gained : List EntryView) × IsGained (entries_view tests l.fn.store) (trail_view tests l.trail)
      (entries_view tests l.store) gained;
  trail : IsTrail (entries_view tests l.store) (trail_view tests l.trail);
  room : HasRoom l.first (trail_view tests l.trail) (entries_view tests l.store);
}

abbrev pub decreases-steps : goal.decreases-steps
decreases-steps g l = places_left l.lesson.found
