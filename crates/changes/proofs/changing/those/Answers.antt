use Rattle.std.proofs.Common.{◌≡◌, ◌∙◌, ◌+◌, ◌++◌, ◌∷◌, [], Bool, drop, ap, sym}
use Rattle.std.specs.List.{filter}
use Rattle.std.proofs.lemmas.List.{append_assoc, drop_more}
use Rattle.catalogue.specs.Loads.{packages_of_old}
use Rattle.lockfile.specs.inner.Views.{package_view, package_views}
use Rattle.model.specs.Content as model
use Rattle.changes.specs.inner.Changed.{is_one}
use Rattle.changes.specs.inner.Views.{lent_views}
use Rattle.changes.proofs.Those.{filter_first}
use Rattle.changes.proofs.changing.those.Goals as goal

pub packages-preserved : goal.packages-preserved
packages-preserved c =
    let test : model.Package → Bool = is_one (packages_of_old c.args.others) c.args.had in
    let xs = c.args.packages.now in
    let i = c.packages.locked-index in
    let p = c.locked-item.result in
    let left = drop (i + 1) xs in
    let here : drop i xs ≡ p ∷ left =
    drop_more xs i p c.packages-test.true ∙ ap (λ y. y ∷ left) (sym c.locked-item.is) in
    let so_far = lent_views c.packages.found.items in
    ap (λ l. l ++ filter test (package_views left)) c.in_ok-push_if_one.ensures
    ∙ append_assoc so_far (filter test (package_view p ∷ [])) (filter test (package_views left))
    ∙ ap (λ l. so_far ++ l) (filter_first test (package_view p) (package_views left))
    ∙ ap (λ l. so_far ++ filter test (package_views l)) (sym here)
    ∙ c.packages.invariant
