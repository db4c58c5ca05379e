use Rattle.terms.specs.Terms.{terms_view}
use Rattle.propagation.specs.Trails.{trail_view}
use Rattle.propagation.specs.inner.Counting.{Ranked}
use Rattle.propagation.proofs.trail.Trail.ranks.Given as goal

abbrev pub invariant-terms : goal.invariant-terms
invariant-terms g l = Ranked (trail_view g.S.States.tests l.self) (terms_view g.S.States.tests l.terms) l.place l.ranks
