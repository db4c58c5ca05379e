use Rattle.std.proofs.Common.{map, subst, sym, length}
use Rattle.facts.specs.inner.Graphs.{node_views}
use Rattle.catalogue.specs.Problems.{problem_in}
use Rattle.facts.specs.inner.Built.{IsBuilt}
use Rattle.selection.specs.inner.Contents.{placed_views, owners_of}
use Rattle.selection.proofs.Built.{no_ties, is_content, is_built, places_apart, places_within}
use Rattle.selection.proofs.building.content_of.Goals as goal

pub sorted-requires : goal.sorted-requires
sorted-requires c =
    no_ties c.args.manifest.now c.args.catalogue.now c.store_holds.ensures c.args.versions.now c.requires.versions _ _
    (placed_views c.in_ok-kept.kept.items) c.in_ok-kept.ensures

pub listed-requires-clause-apart : goal.listed-requires-clause-apart
listed-requires-clause-apart c =
    let kept = rw c.as_slice.ensures.value at c.in_ok-kept.ensures in
    places_apart (problem_in c.args.manifest.now c.args.catalogue.now)
    (owners_of c.args.catalogue.now c.args.versions.now)
    c.args.facts.now.here.items (placed_views c.in_ok-kept.kept.items)
    (placed_views c.in_ok-kept-2.kept.items) kept c.in_ok-kept-2.ensures.permutes

pub listed-requires-clause-within : goal.listed-requires-clause-within
listed-requires-clause-within c =
    let kept = rw c.as_slice.ensures.value at c.in_ok-kept.ensures in
    places_within (problem_in c.args.manifest.now c.args.catalogue.now)
    (owners_of c.args.catalogue.now c.args.versions.now) c.args.facts.now.here.items
    (placed_views c.in_ok-kept.kept.items)
    (placed_views c.in_ok-kept-2.kept.items) kept c.in_ok-kept-2.ensures.permutes
    (length c.args.nodes.now) c.requires.nodes

pub new-requires : goal.new-requires
new-requires c =
    let kept = rw c.as_slice.ensures.value at c.in_ok-kept.ensures in
    is_content (problem_in c.args.manifest.now c.args.catalogue.now)
    (owners_of c.args.catalogue.now c.args.versions.now)
    (node_views c.args.nodes.now) (map (λ v. v.items) c.args.facts.now.enabled.items) c.args.facts.now.here.items
    (placed_views c.in_ok-kept.kept.items) (placed_views c.in_ok-kept-2.kept.items) _ kept
    c.in_ok-kept-2.ensures.permutes c.in_ok-kept-2.ensures.order c.in_ok-packages.ensures

pub returns : goal.returns
returns c =
    let kept = rw c.as_slice.ensures.value at c.in_ok-kept.ensures in
    let q = problem_in c.args.manifest.now c.args.catalogue.now in
    let owners = owners_of c.args.catalogue.now c.args.versions.now in
    let nodes = node_views c.args.nodes.now in
    let enabled = map (λ v. v.items) c.args.facts.now.enabled.items in
    subst (IsBuilt owners nodes enabled q c.args.facts.now.here.items) (sym c.new.ensures)
    (is_built q owners nodes enabled c.args.facts.now.here.items (placed_views c.in_ok-kept.kept.items)
    (placed_views c.in_ok-kept-2.kept.items) _ kept c.in_ok-kept-2.ensures.permutes c.in_ok-kept-2.ensures.order
    c.in_ok-packages.ensures)
