use Rattle.std.proofs.Common.{◌≡◌, ◌≤◌, List, length}
use Rattle.propagation.specs.Promises.{IsLonger}
use Rattle.propagation.specs.Trails.{StepView, trail_view}
use Rattle.propagation.proofs.trail.Trail.shrink.Given as goal

abbrev pub invariant-back : goal.invariant-back
invariant-back g l = let tests = g.S.States.tests in record {
  back : (gone : List StepView) × IsLonger (trail_view tests l.self) (trail_view tests l.fn.self) gone;
  places : l.places ≤ length l.self.steps.items;
  level : l.self.level ≡ l.fn.self.level;
  sifted : (trail_view tests l.self).sifted ≡ (trail_view tests l.fn.self).sifted;
}

abbrev pub decreases-back : goal.decreases-back
decreases-back g l = length l.self.steps.items
