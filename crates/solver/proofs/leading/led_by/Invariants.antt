use Rattle.features.specs.Views.{dependency_views}
use Rattle.propagation.specs.Trails.{trail_view}
use Rattle.vertices.specs.inner.RefViews.{owner_ref_view}
use Rattle.numbering.specs.inner.KnownProblem.{problem}
use Rattle.solver.specs.inner.Leads.{ends}
use Rattle.solver.proofs.Led.{LedTo}
use Rattle.solver.proofs.leading.led_by.Given as goal

-- where the dependencies so far lead
abbrev pub invariant-dependencies : goal.invariant-dependencies
invariant-dependencies g l =
    LedTo (problem l.known) (ends l.known l.table (trail_view g.S.States.tests l.trail)) l.known.problem.catalogue.now
    (owner_ref_view l.owner) (dependency_views l.dependencies) l.number l.places.items
