use Rattle.std.proofs.Common.{rules}
use Rattle.std.specs.Ordering.{is_lt}
use Rattle.std.proofs.lemmas.Cmp.{is_lt_index}
use Rattle.std.proofs.lemmas.List.Sorted.{answers_always, ranks_by}
use Rattle.derivations.specs.Steps.{written_cmp}
use Rattle.derivations.specs.inner.StepViews.{written_view}
use Rattle.derivations.proofs.OrderLaws.{written_total}
use Rattle.derivations.proofs.Ordered.{ordered-ok, ordered-refused}
use Rattle.derivations.proofs.line.sorted_terms.Goals as goal

pub returns-then-is_sorted_by-clause-terms : goal.returns-then-is_sorted_by-clause-terms
returns-then-is_sorted_by-clause-terms c t =
    let cases = c.is_sorted_by.ensures.cases (λ x y. is_lt (written_cmp (written_view t x) (written_view t y)))
    (answers_always _ _ _ (λ f a r g called. search (rules, is_lt_index))) in
    ordered-ok written_total (written_view t) _ _ c.sort_by.ensures.permutation _ c.if-is_sorted_by.true
    (rw c.deref.ensures.value at cases)

pub returns-clause-terms : goal.returns-clause-terms
returns-clause-terms c t =
    let cases = c.is_sorted_by.ensures.cases (λ x y. is_lt (written_cmp (written_view t x) (written_view t y)))
    (answers_always _ _ _ (λ f a r g called. search (rules, is_lt_index))) in
    let sorted = c.in_ok-sort_by.ensures.sorted (λ x y. is_lt (written_cmp (written_view t x) (written_view t y)))
    (ranks_by written_total (written_view t)) (answers_always _ _ _ (λ f a r g called. search rules)) in
    ordered-refused written_total (written_view t) _ _ c.sort_by.ensures.permutation sorted _ c.if-is_sorted_by.false
    (rw c.deref.ensures.value at cases)
