use Rattle.std.proofs.Common.{rules}
use Rattle.std.specs.Ordering.{is_lt}
use Rattle.std.proofs.lemmas.Cmp.{is_lt_index}
use Rattle.std.proofs.lemmas.List.Sorted.{answers_always, ranks_by}
use Rattle.vertices.specs.Orders.{state_cmp}
use Rattle.vertices.specs.Views.{state_view}
use Rattle.vertices.proofs.OrderLaws.{state_total}
use Rattle.derivations.proofs.Ordered.{ordered-ok, ordered-refused}
use Rattle.derivations.proofs.line.sorted_states.Goals as goal

pub returns-then-is_sorted_by : goal.returns-then-is_sorted_by
returns-then-is_sorted_by c =
    let cases = c.is_sorted_by.ensures.cases (λ x y. is_lt (state_cmp (state_view x) (state_view y)))
    (answers_always _ _ _ (λ f a r g called. search (rules, is_lt_index))) in
    ordered-ok state_total state_view _ _ c.sort_by.ensures.permutation _ c.if-is_sorted_by.true
    (rw c.deref.ensures.value at cases)

pub returns-else-is_sorted_by : goal.returns-else-is_sorted_by
returns-else-is_sorted_by c =
    let cases = c.is_sorted_by.ensures.cases (λ x y. is_lt (state_cmp (state_view x) (state_view y)))
    (answers_always _ _ _ (λ f a r g called. search (rules, is_lt_index))) in
    let sorted = c.in_ok-sort_by.ensures.sorted (λ x y. is_lt (state_cmp (state_view x) (state_view y)))
    (ranks_by state_total state_view) (answers_always _ _ _ (λ f a r g called. search rules)) in
    ordered-refused state_total state_view _ _ c.sort_by.ensures.permutation sorted _ c.if-is_sorted_by.false
    (rw c.deref.ensures.value at cases)
