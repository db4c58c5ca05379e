use Rattle.std.proofs.Common.{◌≡◌, ◌∙◌, Bor, Some, None, option_map, ap}
use Rattle.features.specs.Views.{dependency_view}
use Rattle.lockfile.specs.inner.Views.{package_view, package_views}
use Rattle.lockfile.specs.declared.package.Package.{Package}
use Rattle.model.specs.Content.{last_serving}
use Rattle.vertices.specs.inner.RefViews.{owner_ref_view}
use Rattle.guiding.proofs.Led.{no_owner, no_place, at_place, list_rises, list_within}
use Rattle.guiding.proofs.in_content.led_to.Goals as goal

pub target-requires-clause-content : goal.target-requires-clause-content
target-requires-clause-content c = c.requires.is_content

pub target-requires-clause-within : goal.target-requires-clause-within
target-requires-clause-within c =
    let within =
    list_within c.args.content.now (owner_ref_view c.args.owner.now) (dependency_view c.args.dependency.now)
    c.requires.is_content c.in_ok-locked.locked.now c.in_ok-locked.ensures in
    rw c.as_slice.ensures.value within

pub target-requires-clause-rising : goal.target-requires-clause-rising
target-requires-clause-rising c =
    rw c.as_slice.ensures.value
    (list_rises c.args.content.now (owner_ref_view c.args.owner.now) (dependency_view c.args.dependency.now)
    c.requires.is_content c.in_ok-locked.locked.now c.in_ok-locked.ensures)

pub returns-in_err-locked : goal.returns-in_err-locked
returns-in_err-locked c =
    ap (option_map (λ (b : Bor Package). package_view b.now)) c.from_residual.ensures
    ∙ no_owner c.args.content.now (owner_ref_view c.args.owner.now)
    (dependency_view c.args.dependency.now) c.in_err-locked.ensures

pub returns-in_err-place : goal.returns-in_err-place
returns-in_err-place c =
    let d = dependency_view c.args.dependency.now in
    let none : None ≡ last_serving (package_views c.args.content.now) d c.in_ok-locked.locked.now.list.items =
    rw c.as_slice.ensures.value at c.in_err-place.ensures in
    ap (option_map (λ (b : Bor Package). package_view b.now)) c.from_residual-in_err-place.ensures
    ∙ no_place c.args.content.now
    (owner_ref_view c.args.owner.now) d c.in_ok-locked.locked.now c.in_ok-locked.ensures none

pub returns : goal.returns
returns c =
    let d = dependency_view c.args.dependency.now in
    let n = c.in_ok-place.place in
    let some : Some n ≡ last_serving (package_views c.args.content.now) d c.in_ok-locked.locked.now.list.items =
    rw c.as_slice.ensures.value at c.in_ok-place.ensures in
    at_place c.args.content.now (owner_ref_view c.args.owner.now) d c.in_ok-locked.locked.now n c.get.result
    c.in_ok-locked.ensures some c.get.ensures.lookup
