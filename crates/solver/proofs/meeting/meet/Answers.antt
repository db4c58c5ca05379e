use Rattle.std.proofs.Common.{◌≡◌, List, ◌∷◌, [], Some, length, nat_eq, slice_get, sym, ap, ◌∙◌, subst, arith}
use Rattle.std.proofs.lemmas.List.{length-map, map-append, length-append}
use Rattle.facts.specs.inner.Graphs.{node_view, node_views}
use Rattle.features.specs.Views.{dependency_views}
use Rattle.propagation.specs.Trails.{trail_view}
use Rattle.model.specs.inner.Search.{LeadsTo}
use Rattle.model.specs.Summary.{Dependency}
use Rattle.facts.specs.inner.Nodes.{AreLeads}
use Rattle.numbering.specs.inner.KnownProblem.{problem}
use Rattle.selection.specs.inner.Contents.{owners_of}
use Rattle.selection.proofs.MetNodes.{begun, one_more, all_met, owner_next}
use Rattle.solver.specs.inner.Leads.{AreThere, ends}
use Rattle.solver.proofs.Led.{led_there, leads_of}
use Rattle.solver.proofs.meeting.meet.Goals as goal

pub versions-init : goal.versions-init
versions-init g c =
    let i = c.args.known.now in
    let index = i.problem.catalogue.now in
    let q = problem i in
    begun q (LeadsTo q (ends i c.args.table.now (trail_view g.S.States.tests c.args.trail.now))) index _ _
    c.new-versions.ensures.empty (ap node_views c.new-nodes.ensures.items)

pub brings_at-brings-requires : goal.brings_at-brings-requires
brings_at-brings-requires g c = rw c.as_slice.ensures.keys c.versions.invariant.are

pub led_at-requires-clause-versions : goal.led_at-requires-clause-versions
led_at-requires-clause-versions g c = rw c.as_slice-in-versions.ensures.keys c.versions.invariant.are

pub targets_of-requires-clause-many : goal.targets_of-requires-clause-many
targets_of-requires-clause-many g c =
    let i = c.args.known.now in
    let index = i.problem.catalogue.now in
    let q = problem i in
    let st = ends i c.args.table.now (trail_view g.S.States.tests c.args.trail.now) in
    let ds = c.dependencies_of-dependencies.result.now in
    let test = c.versions-test.true in
    let len = c.len.ensures in
    let place = c.len-place.ensures in
    let wide = c.len-in-versions.ensures.len in
    let (o, at) =
    owner_next index c.versions.versions.keys c.len-place.result (omega (arith, test, len, place, wide)) in
    let led = c.in_ok-places.ensures o (subst (λ ks. slice_get (owners_of index ks) c.len-place.result
    ≡ Some o) (sym c.as_slice-in-versions.ensures.keys) at) in
    let many : length c.in_ok-places.places.items ≡ length ds = rw length-map at led.as_many in
    rw c.as_slice-in-versions-2.ensures.value many

pub targets_of-requires-clause-there : goal.targets_of-requires-clause-there
targets_of-requires-clause-there g c =
    let i = c.args.known.now in
    let index = i.problem.catalogue.now in
    let q = problem i in
    let st = ends i c.args.table.now (trail_view g.S.States.tests c.args.trail.now) in
    let ds = c.dependencies_of-dependencies.result.now in
    let test = c.versions-test.true in
    let len = c.len.ensures in
    let place = c.len-place.ensures in
    let wide = c.len-in-versions.ensures.len in
    let (o, at) =
    owner_next index c.versions.versions.keys c.len-place.result (omega (arith, test, len, place, wide)) in
    let led = c.in_ok-places.ensures o (subst (λ ks. slice_get (owners_of index ks) c.len-place.result
    ≡ Some o) (sym c.as_slice-in-versions.ensures.keys) at) in
    subst (AreThere index (dependency_views ds)) (sym c.as_slice-in-versions-2.ensures.value)
    (led_there q st index o (dependency_views ds) c.in_ok-places.places.items led)

pub versions-smaller : goal.versions-smaller
versions-smaller g c =
    let count = ap length c.in_ok-push.ensures.items ∙ length-append c.versions.nodes.items (_ ∷ []) in
    let test = c.versions-test.true in
    let len = c.len.ensures in
    let wide = c.len-in-versions.ensures.len in
    let small = c.len-in-versions.ensures.small in
    omega (arith, count, test, len, wide, small)

pub versions-preserved : goal.versions-preserved
versions-preserved g c =
    let i = c.args.known.now in
    let index = i.problem.catalogue.now in
    let q = problem i in
    let st = ends i c.args.table.now (trail_view g.S.States.tests c.args.trail.now) in
    let old = c.versions.versions.keys in
    let new = c.targets_of.new.versions.keys in
    let nodes = c.versions.nodes.items in
    let place = c.len-place.ensures in
    let even : c.len-place.result ≡ length (node_views nodes) = rw length-map (omega (arith, place)) in
    let test = c.versions-test.true in
    let len = c.len.ensures in
    let wide = c.len-in-versions.ensures.len in
    let ds = dependency_views c.dependencies_of-dependencies.result.now in
    let put = rw c.as_slice-in-versions-2.ensures.value at c.in_ok-targets.ensures.put in
    one_more q (LeadsTo q st) index old new (node_views nodes) _ _ c.versions.invariant
    (rw length-map (omega (arith, test, len, wide))) c.in_ok-targets.ensures.grows
    (λ o at. c.brings_at-brings.ensures o (subst (λ ks. slice_get (owners_of index ks) c.len-place.result ≡ Some o)
    (sym c.as_slice.ensures.keys) (ap (slice_get (owners_of index old)) even ∙ at)))
    (ap (λ k. nat_eq k 0) even)
    (λ o at. subst (λ (ds : List Dependency). AreLeads q (LeadsTo q st)
    (owners_of index new) o ds c.in_ok-targets.targets.items) c.dependencies_of-dependencies.ensures
    (leads_of q st index o new ds c.in_ok-places.places.items c.in_ok-targets.targets.items
    (c.in_ok-places.ensures o (subst (λ ks. slice_get (owners_of index ks) c.len-place.result ≡ Some o)
    (sym c.as_slice-in-versions.ensures.keys) (ap (slice_get (owners_of index old)) even ∙ at))) put))
    (ap node_views c.in_ok-push.ensures.items ∙ map-append node_view nodes (_ ∷ []))

pub returns-clause-met : goal.returns-clause-met
returns-clause-met g c =
    let i = c.args.known.now in
    let index = i.problem.catalogue.now in
    let q = problem i in
    let test = c.versions-test.false in
    let len = c.len.ensures in
    let wide = c.len-in-versions.ensures.len in
    all_met q (LeadsTo q (ends i c.args.table.now (trail_view g.S.States.tests c.args.trail.now))) index
    c.versions.versions.keys (node_views c.versions.nodes.items) c.store_holds.ensures c.versions.invariant
    (rw length-map (omega (arith, test, len, wide)))

pub returns-clause-versions : goal.returns-clause-versions
returns-clause-versions g c = c.versions.invariant.are
