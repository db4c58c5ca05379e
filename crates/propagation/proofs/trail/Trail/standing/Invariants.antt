use Rattle.std.proofs.Common.{length}
use Rattle.terms.specs.Terms.{terms_view}
use Rattle.propagation.specs.Trails.{trail_view}
use Rattle.propagation.specs.inner.Units.{relation_at}
use Rattle.propagation.proofs.Standings.{StandsFrom}
use Rattle.propagation.proofs.trail.Trail.standing.Given as goal

abbrev pub invariant-terms : goal.invariant-terms
invariant-terms g l = StandsFrom l.place (length l.terms)
    (relation_at (trail_view g.S.States.tests l.self).sets (terms_view g.S.States.tests l.terms)) l.seen
