use Rattle.std.proofs.Common.{◌≡◌, rules, ◌∙◌, nat_lt}
use Rattle.std.specs.Ordering.{nat_cmp, is_lt}
use Rattle.std.proofs.lemmas.List.Sorted.{answers_always}
use Rattle.lockfile.proofs.PlaceOrder.{less-test, places-ordered, places-repeat}
use Rattle.lockfile.proofs.order.ordered_list.Goals as goal

pub returns-then-is_sorted_by : goal.returns-then-is_sorted_by
returns-then-is_sorted_by c =
    let cases = c.is_sorted_by.ensures.cases (λ m n. is_lt (nat_cmp m n)) (answers_always _ _ _ (λ f a r g called.
    let is : r ≡ nat_lt a.0.now a.1.0.now = search rules in is ∙ less-test a.0.now a.1.0.now)) in
    places-ordered _ _ c.sort_unstable.ensures.permutation _ c.if-is_sorted_by.true (rw c.deref.ensures.value at cases)

pub returns-else-is_sorted_by : goal.returns-else-is_sorted_by
returns-else-is_sorted_by c =
    let cases = c.is_sorted_by.ensures.cases (λ m n. is_lt (nat_cmp m n)) (answers_always _ _ _ (λ f a r g called.
    let is : r ≡ nat_lt a.0.now a.1.0.now = search rules in is ∙ less-test a.0.now a.1.0.now)) in
    places-repeat _ _ c.sort_unstable.ensures.permutation c.sort_unstable.ensures.sorted _ c.if-is_sorted_by.false
    (rw c.deref.ensures.value at cases)
