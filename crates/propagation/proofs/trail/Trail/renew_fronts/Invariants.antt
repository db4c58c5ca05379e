use Rattle.incompatibilities.specs.Stores.{entries_view}
use Rattle.propagation.specs.Promises.{IsTrail}
use Rattle.propagation.specs.Trails.{trail_view}
use Rattle.propagation.specs.inner.Parts.{IsRenewed}
use Rattle.propagation.proofs.trail.Trail.renew_fronts.Given as goal

abbrev pub invariant-places : goal.invariant-places
invariant-places g l = let tests = g.S.States.tests in record {
  trail : IsTrail (entries_view tests l.store) (trail_view tests l.self);
  renewed : IsRenewed (trail_view tests l.fn.self) (trail_view tests l.self);
}
