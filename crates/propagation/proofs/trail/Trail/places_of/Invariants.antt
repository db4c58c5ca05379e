use Rattle.propagation.specs.Trails.{trail_view}
use Rattle.propagation.proofs.Counts.{IsOnWay, reach}
use Rattle.propagation.proofs.trail.Trail.places_of.Given as goal

abbrev pub invariant-back : goal.invariant-back
invariant-back g l = IsOnWay (trail_view g.S.States.tests l.self) l.term.vertex (g.S.States.tests l.term.states) l.link

abbrev pub decreases-back : goal.decreases-back
decreases-back g l = reach l.link
