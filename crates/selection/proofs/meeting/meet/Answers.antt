use Rattle.std.proofs.Common.{◌≡◌, ◌∷◌, ◌||◌, [], Some, length, map, nat_eq, slice_get, unwrap_or, sym, ap, ◌∙◌}
use Rattle.std.proofs.Common.{subst, arith}
use Rattle.std.proofs.lemmas.List.{length-map, map-append, length-append}
use Rattle.features.specs.Views.{brings_view}
use Rattle.facts.specs.inner.Graphs.{node_view, node_views}
use Rattle.catalogue.specs.Problems.{preferred_in, problem_in}
use Rattle.selection.specs.inner.Contents.{owners_of}
use Rattle.selection.proofs.MetVersions.{owner_on, owners_once}
use Rattle.selection.proofs.MetNodes.{one_more, all_met}
use Rattle.selection.specs.inner.Followed.{PicksFollowed}
use Rattle.selection.specs.inner.Met.{ArePicks}
use Rattle.selection.proofs.PickedTargets.{leads_of, round_begun, so_far_on}
use Rattle.selection.proofs.meeting.meet.Goals as goal

pub versions-init : goal.versions-init
versions-init c =
    let index = c.args.catalogue.now in
    let q = problem_in c.args.manifest.now index in
    let begun = round_begun c.args.all (map (λ v. v.items) c.args.asked.now) q (preferred_in index)
    (owners_of index c.args.versions.now.keys) index c.args.versions.now.keys _ c.requires.versions
    (ap node_views c.new-nodes.ensures.items) in
    (begun, c.requires.orders)

pub brings_at-brings-requires : goal.brings_at-brings-requires
brings_at-brings-requires c = rw c.as_slice.ensures.keys c.versions.invariant.0.are

pub targets_of-requires : goal.targets_of-requires
targets_of-requires c = c.versions.invariant.1

pub versions-smaller : goal.versions-smaller
versions-smaller c =
    let count = ap length c.in_ok-push.ensures.items ∙ length-append c.versions.nodes.items (_ ∷ []) in
    let test = c.versions-test.true in
    let len = c.len.ensures in
    let wide = c.len-in-versions.ensures.len in
    let small = c.len-in-versions.ensures.small in
    omega (arith, count, test, len, wide, small)

pub versions-preserved : goal.versions-preserved
versions-preserved c =
    let index = c.args.catalogue.now in
    let q = problem_in c.args.manifest.now index in
    let rows = preferred_in index in
    let asked = map (λ v. v.items) c.args.asked.now in
    let old = c.versions.versions.keys in
    let new = c.targets_of.new.versions.keys in
    let nodes = c.versions.nodes.items in
    let targets = c.in_ok-targets.targets.items in
    let place = c.len-place.ensures in
    let even : c.len-place.result ≡ length (node_views nodes) = rw length-map (omega (arith, place)) in
    let test = c.versions-test.true in
    let len = c.len.ensures in
    let wide = c.len-in-versions.ensures.len in
    let grows = c.in_ok-targets.ensures.grows in
    let picks : ArePicks rows (owners_of index new) (c.args.all || nat_eq c.len-place.result 0)
    (unwrap_or (slice_get asked c.len-place.result) []) (brings_view c.brings_at-brings.result).dependencies targets
    = rw (c.follows_all.ensures, c.flags.ensures, c.dependencies_of-dependencies.ensures)
    at c.in_ok-targets.ensures.picks in
    let more = one_more q (PicksFollowed c.args.all asked (owners_of index new) q rows) index old new
    (node_views nodes) _ _
    (so_far_on c.args.all asked q rows index c.store_holds.ensures old new grows (node_views nodes)
    c.versions.invariant.0) (rw length-map (omega (arith, test, len, wide))) grows
    (λ o at. c.brings_at-brings.ensures o (subst (λ ks. slice_get (owners_of index ks) c.len-place.result ≡ Some o)
    (sym c.as_slice.ensures.keys) (ap (slice_get (owners_of index old)) even ∙ at)))
    (ap (λ k. nat_eq k 0) even)
    (λ o at. leads_of c.args.all asked q rows (owners_of index new)
    (owners_once index c.store_holds.ensures new (grows.still c.versions.invariant.0.are)) o c.len-place.result
    (owner_on index old new grows c.len-place.result o (ap (slice_get (owners_of index old)) even ∙ at)) _ targets
    picks)
    (ap node_views c.in_ok-push.ensures.items ∙ map-append node_view nodes (_ ∷ [])) in
    (more, c.in_ok-targets.ensures.orders)

pub returns-clause-met : goal.returns-clause-met
returns-clause-met c =
    let index = c.args.catalogue.now in
    let q = problem_in c.args.manifest.now index in
    let test = c.versions-test.false in
    let len = c.len.ensures in
    let wide = c.len-in-versions.ensures.len in
    all_met q (PicksFollowed c.args.all (map (λ v. v.items) c.args.asked.now)
    (owners_of index c.versions.versions.keys) q (preferred_in index)) index c.versions.versions.keys
    (node_views c.versions.nodes.items) c.store_holds.ensures c.versions.invariant.0
    (rw length-map (omega (arith, test, len, wide)))

pub returns-clause-versions : goal.returns-clause-versions
returns-clause-versions c = c.versions.invariant.0.are
