use Rattle.std.proofs.Common.{◌≡◌, Some, sym, ap, ◌∙◌, subst}
use Rattle.std.proofs.lemmas.Option.{slice_get-get_or}
use Rattle.model.proofs.Places.{map_at}
use Rattle.features.specs.Views.{dependency_view, dependency_views}
use Rattle.facts.specs.inner.Graphs.{flag_at}
use Rattle.selection.specs.inner.Contents.{owners_of}
use Rattle.selection.specs.inner.Followed.{is_followed}
use Rattle.catalogue.specs.Problems.{preferred_in}
use Rattle.selection.specs.inner.Met.{IsPickIf}
use Rattle.selection.proofs.PickedTargets.{more_targets}
use Rattle.selection.proofs.meeting.targets_of.Goals as goal

pub dependencies-preserved : goal.dependencies-preserved
dependencies-preserved c =
    let index = c.args.catalogue.now in
    let ds = c.args.dependencies.now in
    let i = c.dependencies.number in
    let d = c.deref-in-dependencies.result.now in
    let there = map_at dependency_view ds i d
    (slice_get-get_or ds i c.index-dependencies-number.result c.dependencies-test.true
    ∙ ap Some (sym (c.deref-in-dependencies.ensures ∙ c.index-dependencies-number.is))) in
    let same : c.deref.result.now ≡ d = c.deref.ensures ∙ sym c.deref-in-dependencies.ensures in
    let follows = c.is_followed-follows.ensures
    ∙ ap (λ b. is_followed c.args.all b (dependency_view c.deref.result.now)) c.flag.ensures
    ∙ ap (λ d. is_followed c.args.all (flag_at c.args.asked.now i) (dependency_view d)) same in
    let pick = subst (λ b. IsPickIf (preferred_in index) (owners_of index c.target_if.new.versions.keys) b
    (dependency_view d) c.in_ok-target_if.field-0) follows c.in_ok-target_if.ensures.pick in
    let more = more_targets index c.args.all c.args.asked.now c.args.versions.now.keys c.dependencies.versions.keys
    c.target_if.new.versions.keys
    (dependency_views ds) i c.dependencies.targets.items _ (dependency_view d) c.in_ok-target_if.field-0
    c.dependencies.invariant.0 c.in_ok-target_if.ensures.grows there pick c.in_ok-push.ensures.items in
    (more, c.in_ok-target_if.ensures.orders)
