use Rattle.std.proofs.Common.{map, subst}
use Rattle.model.specs.Selection.{IsValidSelection}
use Rattle.model.specs.Walk.{Picks}
use Rattle.model.proofs.Unique.{one_content}
use Rattle.facts.specs.inner.Graphs.{node_views}
use Rattle.catalogue.specs.Problems.{preferred_in, problem_in}
use Rattle.facts.specs.inner.Built.{IsBuilt}
use Rattle.selection.specs.inner.Contents.{owners_of}
use Rattle.selection.specs.inner.Rounds.{IsReached, Reaches}
use Rattle.selection.proofs.walk.preferred.Goals as goal

pub returns-clause-answer : goal.returns-clause-answer
returns-clause-answer c other it =
    let index = c.args.catalogue.now in
    let q = problem_in c.args.manifest.now index in
    let reached = c.in-Some.reached in
    let is : IsReached q index reached = subst (Reaches q index) c.in-Some.is c.in_ok-reached.ensures in
    let built : IsBuilt (owners_of index reached.versions.keys) (node_views reached.nodes.items)
    (map (λ v. v.items) reached.facts.enabled.items) q reached.facts.here.items c.in_ok-content.content
    = rw (c.as_slice.ensures.keys, c.as_slice-2.ensures.value) at c.in_ok-content.ensures in
    let walk = (is.enough).walk c.in_ok-content.content built in
    let same = one_content q (Picks q (preferred_in index)) other c.in_ok-content.content it.walk walk in
    let valid = c.in_ok-verify.ensures.selects.1 (subst (λ k. IsValidSelection q k) same it.valid) in
    let invalid = c.in-Invalid.is in
    cc
