use Rattle.terms.specs.Terms.{terms_view}
use Rattle.incompatibilities.specs.Stores.{entries_view}
use Rattle.propagation.specs.Trails.{trail_view}
use Rattle.conflicts.specs.Resolving.{IsHeld}
use Rattle.conflicts.proofs.strengthening.with_units.Given as goal

abbrev pub invariant-links : goal.invariant-links
invariant-links g l = let tests = g.S.States.tests in IsHeld (entries_view tests l.store)
    (trail_view tests l.trail) (terms_view tests l.held.incompatibility) l.held.chain
