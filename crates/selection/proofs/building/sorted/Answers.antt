use Rattle.std.proofs.Common.{rules}
use Rattle.std.specs.Ordering.{is_lt}
use Rattle.std.proofs.lemmas.List.Sorted.{answers_always, ranks_by, IsPermutation-map}
use Rattle.model.specs.Order.{package_cmp}
use Rattle.lockfile.specs.inner.Views.{package_view}
use Rattle.model.proofs.PackageOrder.{package_total}
use Rattle.selection.specs.inner.Contents.{placed_view}
use Rattle.selection.proofs.Ordered.{in_order}
use Rattle.selection.proofs.building.sorted.Goals as goal

pub returns-clause-permutes : goal.returns-clause-permutes
returns-clause-permutes c = IsPermutation-map placed_view _ _ c.in_ok-sort_by.ensures.permutation

pub returns-clause-order : goal.returns-clause-order
returns-clause-order c =
    let sorted =
    c.in_ok-sort_by.ensures.sorted (λ x y. is_lt (package_cmp (package_view x.locked) (package_view y.locked)))
    (ranks_by package_total (λ k. package_view k.locked)) (answers_always _ _ _ (λ f a r g called. search rules)) in
    in_order _ _ c.requires (IsPermutation-map placed_view _ _ c.in_ok-sort_by.ensures.permutation) sorted
