use Rattle.std.proofs.Common.{◌-◌, ◌^◌, length}
use Rattle.facts.specs.inner.Graphs.{node_views}
use Rattle.propagation.specs.Trails.{trail_view}
use Rattle.model.specs.inner.Search.{LeadsTo}
use Rattle.numbering.specs.inner.KnownProblem.{problem}
use Rattle.solver.specs.inner.Leads.{ends}
use Rattle.selection.proofs.MetNodes.{SoFar}
use Rattle.solver.proofs.meeting.meet.Given as goal

-- each of those met so far is there once, and the first of them have their nodes
abbrev pub invariant-versions : goal.invariant-versions
invariant-versions g l =
    SoFar (problem l.known) (LeadsTo (problem l.known) (ends l.known l.table (trail_view g.S.States.tests l.trail)))
    l.known.problem.catalogue.now l.versions.keys (node_views l.nodes.items)

abbrev pub decreases-versions : goal.decreases-versions
decreases-versions g l = 2 ^ 64 - length l.nodes.items
