use Rattle.terms.specs.Terms.{terms_view}
use Rattle.propagation.specs.Trails.{trail_view}
use Rattle.propagation.specs.inner.Units.{AllHold, relation_at}
use Rattle.propagation.proofs.trail.Trail.is_satisfied.Given as goal

abbrev pub invariant-terms : goal.invariant-terms
invariant-terms g l =
    AllHold l.place (relation_at (trail_view g.S.States.tests l.self).sets (terms_view g.S.States.tests l.terms))
