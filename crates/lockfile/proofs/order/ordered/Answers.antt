use Rattle.std.proofs.Common.{rules}
use Rattle.std.specs.Ordering.{is_lt}
use Rattle.std.proofs.lemmas.Cmp.{is_lt_index}
use Rattle.std.proofs.lemmas.List.Sorted.{answers_always, ranks_by}
use Rattle.lockfile.specs.Locks.{unlinked_cmp}
use Rattle.lockfile.specs.inner.Views.{unlinked_view}
use Rattle.lockfile.proofs.PackageOrder.{unlinked_total, packages-ordered, packages-sorted, packages-alike}
use Rattle.lockfile.proofs.order.ordered.Goals as goal

pub returns-then-is_sorted_by-clause-value : goal.returns-then-is_sorted_by-clause-value
returns-then-is_sorted_by-clause-value c =
    let cases = c.is_sorted_by.ensures.cases (λ x y. is_lt (unlinked_cmp (unlinked_view x) (unlinked_view y)))
    (answers_always _ _ _ (λ f a r g called. search (rules, is_lt_index))) in
    packages-ordered _ _ c.sort_by.ensures.permutation _ c.if-is_sorted_by.true (rw c.deref.ensures.value at cases)

pub returns-then-is_sorted_by-clause-ordered : goal.returns-then-is_sorted_by-clause-ordered
returns-then-is_sorted_by-clause-ordered c =
    let cases = c.is_sorted_by.ensures.cases (λ x y. is_lt (unlinked_cmp (unlinked_view x) (unlinked_view y)))
    (answers_always _ _ _ (λ f a r g called. search (rules, is_lt_index))) in
    packages-sorted _ _ c.sort_by.ensures.permutation _ c.if-is_sorted_by.true (rw c.deref.ensures.value at cases)

pub returns-clause-value : goal.returns-clause-value
returns-clause-value c =
    let cases = c.is_sorted_by.ensures.cases (λ x y. is_lt (unlinked_cmp (unlinked_view x) (unlinked_view y)))
    (answers_always _ _ _ (λ f a r g called. search (rules, is_lt_index))) in
    let sorted = c.in_ok-sort_by.ensures.sorted (λ x y. is_lt (unlinked_cmp (unlinked_view x) (unlinked_view y)))
    (ranks_by unlinked_total unlinked_view) (answers_always _ _ _ (λ f a r g called. search rules)) in
    packages-alike _ _ c.sort_by.ensures.permutation sorted _ c.if-is_sorted_by.false
    (rw c.deref.ensures.value at cases)
