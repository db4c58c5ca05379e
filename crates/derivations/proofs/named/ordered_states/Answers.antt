use Rattle.std.proofs.Common.{rules, sym}
use Rattle.std.specs.Ordering.{is_lt}
use Rattle.std.proofs.lemmas.Cmp.{is_lt_index}
use Rattle.std.proofs.lemmas.List.Sorted.{answers_always, IsPermutation-refl}
use Rattle.vertices.specs.Orders.{state_cmp}
use Rattle.vertices.specs.inner.RefViews.{state_ref_view}
use Rattle.vertices.proofs.OrderLaws.{state_total}
use Rattle.model.proofs.Sorting.{ordered-run}
use Rattle.derivations.proofs.named.ordered_states.Goals as goal

pub returns-then-is_sorted_by : goal.returns-then-is_sorted_by
returns-then-is_sorted_by c =
    let cases = c.is_sorted_by.ensures.cases (λ x y. is_lt (state_cmp (state_ref_view x) (state_ref_view y)))
    (answers_always _ _ _ (λ f a r g called. search (rules, is_lt_index))) in
    sym (ordered-run state_total state_ref_view c.args.states.now c.args.states.now
    (IsPermutation-refl _) _ c.if-is_sorted_by.true cases).1
