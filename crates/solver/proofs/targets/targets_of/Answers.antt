use Rattle.std.proofs.Common.{Some, None, get_or, sym, ap, ◌∙◌, arith}
use Rattle.std.proofs.lemmas.Option.{slice_get-get_or}
use Rattle.model.proofs.Places.{map_at}
use Rattle.features.specs.Views.{dependency_view, dependency_views}
use Rattle.solver.proofs.Put.{one_put, there_put}
use Rattle.solver.proofs.targets.targets_of.Goals as goal

pub target_of-requires : goal.target_of-requires
target_of-requires c =
    let ds = c.args.dependencies.now in
    let n = c.dependencies.number in
    let d = c.deref.result.now in
    let there = map_at dependency_view ds n d
    (slice_get-get_or ds n c.index-dependencies-number.result c.dependencies-test.true
    ∙ ap Some (sym (c.deref.ensures ∙ c.index-dependencies-number.is))) in
    let p = get_or c.args.places.now n None in
    let at = slice_get-get_or c.args.places.now n None (omega (arith, c.requires.many, c.dependencies-test.true)) in
    there_put c.args.catalogue.now (dependency_views ds) c.args.places.now c.requires.there n
    (dependency_view d) p there at

pub dependencies-preserved : goal.dependencies-preserved
dependencies-preserved c =
    let ds = c.args.dependencies.now in
    let n = c.dependencies.number in
    let d = c.deref.result.now in
    let there = map_at dependency_view ds n d
    (slice_get-get_or ds n c.index-dependencies-number.result c.dependencies-test.true
    ∙ ap Some (sym (c.deref.ensures ∙ c.index-dependencies-number.is))) in
    let p = get_or c.args.places.now n None in
    let at = slice_get-get_or c.args.places.now n None (omega (arith, c.requires.many, c.dependencies-test.true)) in
    one_put c.args.catalogue.now c.args.versions.now.keys c.dependencies.versions.keys c.target_of.new.versions.keys
    (dependency_views ds) c.args.places.now n c.dependencies.targets.items _
    (dependency_view d) p c.in_ok-target.target
    c.dependencies.invariant c.in_ok-target.ensures.grows there at c.in_ok-target.ensures.put c.in_ok-push.ensures.items
