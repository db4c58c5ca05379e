use Rattle.std.proofs.Common.{Some, sym, ap, ◌∙◌}
use Rattle.std.proofs.lemmas.Option.{slice_get-get_or}
use Rattle.model.proofs.Places.{map_at}
use Rattle.features.specs.Views.{dependency_view, dependency_views}
use Rattle.propagation.specs.Trails.{trail_view}
use Rattle.vertices.specs.inner.RefViews.{owner_ref_view}
use Rattle.numbering.specs.inner.KnownProblem.{problem}
use Rattle.solver.specs.inner.Leads.{ends}
use Rattle.solver.proofs.Led.{one_led}
use Rattle.solver.proofs.leading.led_by.Goals as goal

pub dependencies-preserved : goal.dependencies-preserved
dependencies-preserved g c =
    let i = c.args.known.now in
    let ds = c.args.dependencies.now in
    let n = c.dependencies.number in
    let d = c.deref.result.now in
    let there = map_at dependency_view ds n d
    (slice_get-get_or ds n c.index-dependencies-number.result c.dependencies-test.true
    ∙ ap Some (sym (c.deref.ensures ∙ c.index-dependencies-number.is))) in
    one_led (problem i) (ends i c.args.table.now (trail_view g.S.States.tests c.args.trail.now)) i.problem.catalogue.now
    (owner_ref_view c.args.owner.now) (dependency_views ds) n c.dependencies.places.items c.push.new.self.items
    (dependency_view d) c.in_ok-place.place
    c.dependencies.invariant there c.in_ok-place.ensures c.in_ok-push.ensures.items
