use Rattle.std.proofs.Common.{◌-◌, ◌^◌, length, map}
use Rattle.facts.specs.inner.Graphs.{node_views}
use Rattle.catalogue.specs.Problems.{preferred_in, problem_in}
use Rattle.selection.specs.inner.Contents.{owners_of}
use Rattle.selection.proofs.MetNodes.{SoFar}
use Rattle.selection.specs.inner.Followed.{PicksFollowed}
use Rattle.selection.specs.inner.Met.{AreOrders}
use Rattle.selection.proofs.meeting.meet.Given as goal

-- each of those met so far is there once, and the first of them have their nodes; the orders that are kept are right
abbrev pub invariant-versions : goal.invariant-versions
invariant-versions l = SoFar (problem_in l.manifest l.catalogue) (PicksFollowed l.all (map (λ v. v.items) l.asked)
    (owners_of l.catalogue l.versions.keys) (problem_in l.manifest l.catalogue) (preferred_in l.catalogue))
    l.catalogue l.versions.keys (node_views l.nodes.items) × AreOrders l.catalogue l.orders

abbrev pub decreases-versions : goal.decreases-versions
decreases-versions l = 2 ^ 64 - length l.nodes.items
