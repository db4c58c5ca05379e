use Rattle.incompatibilities.specs.Stores.{entries_view}
use Rattle.propagation.specs.Trails.{front_of, trail_view}
use Rattle.propagation.proofs.Sifting.{IsSifted}
use Rattle.propagation.proofs.trail.Trail.still_alive.Given as goal

abbrev pub invariant-entries : goal.invariant-entries
invariant-entries g l =
    let tests = g.S.States.tests in
    let t = trail_view tests l.self in
    IsSifted (entries_view tests l.store) t.sets l.vertex (front_of t.fronts l.vertex) l.turn l.alive.items
