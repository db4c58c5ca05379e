use Rattle.std.proofs.Common.{rules}
use Rattle.std.specs.Ordering.{is_lt}
use Rattle.std.proofs.lemmas.Cmp.{is_lt_index}
use Rattle.std.proofs.lemmas.List.Sorted.{answers_always, IsPermutation-refl}
use Rattle.vertices.specs.Orders.{state_cmp}
use Rattle.vertices.specs.Views.{state_view}
use Rattle.vertices.proofs.OrderLaws.{state_total}
use Rattle.derivations.proofs.Ordered.{ordered-ok}
use Rattle.derivations.proofs.line.ordered_states.Goals as goal

pub returns-then-is_sorted_by : goal.returns-then-is_sorted_by
returns-then-is_sorted_by c =
    let cases = c.is_sorted_by.ensures.cases (λ x y. is_lt (state_cmp (state_view x) (state_view y)))
    (answers_always _ _ _ (λ f a r g called. search (rules, is_lt_index))) in
    ordered-ok state_total state_view c.args.states.items c.args.states.items
    (IsPermutation-refl _) _ c.if-is_sorted_by.true (rw c.deref.ensures.value at cases)
