use Rattle.incompatibilities.specs.Stores.{entries_view}
use Rattle.propagation.specs.Trails.{front_of, trail_view}
use Rattle.propagation.proofs.Looking.{IsPropagating}
use Rattle.propagation.proofs.trail.Trail.propagate_next.Given as goal

abbrev pub invariant-entries : goal.invariant-entries
invariant-entries g l = let tests = g.S.States.tests in
    IsPropagating l.turn (front_of (trail_view tests l.fn.self).fronts l.vertex) l.on (entries_view tests l.store)
    (trail_view tests l.fn.self) (trail_view tests l.self)
