use Rattle.std.proofs.Common.{rules}
use Rattle.std.specs.Ordering.{is_lt}
use Rattle.std.proofs.lemmas.Cmp.{is_lt_index}
use Rattle.std.proofs.lemmas.List.Sorted.{answers_always, IsPermutation-refl}
use Rattle.derivations.specs.Steps.{written_cmp}
use Rattle.derivations.specs.inner.StepViews.{written_view}
use Rattle.derivations.proofs.OrderLaws.{written_total}
use Rattle.derivations.proofs.Ordered.{ordered-ok}
use Rattle.derivations.proofs.line.ordered_terms.Goals as goal

pub returns-then-is_sorted_by-clause-same : goal.returns-then-is_sorted_by-clause-same
returns-then-is_sorted_by-clause-same c = IsPermutation-refl _

pub returns-then-is_sorted_by-clause-terms : goal.returns-then-is_sorted_by-clause-terms
returns-then-is_sorted_by-clause-terms c t =
    let cases = c.is_sorted_by.ensures.cases (λ x y. is_lt (written_cmp (written_view t x) (written_view t y)))
    (answers_always _ _ _ (λ f a r g called. search (rules, is_lt_index))) in
    ordered-ok written_total (written_view t) c.args.terms.items c.args.terms.items
    (IsPermutation-refl _) _ c.if-is_sorted_by.true (rw c.deref.ensures.value at cases)
