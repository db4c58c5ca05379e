use Rattle.std.proofs.Common.{rules, sym}
use Rattle.std.specs.Ordering.{is_lt}
use Rattle.std.proofs.lemmas.List.Sorted.{answers_always, ranks_by}
use Rattle.lockfile.specs.inner.Written.{written_cmp, listed_view}
use Rattle.lockfile.proofs.ListOrder.{written_total}
use Rattle.lockfile.proofs.Stable.{in_order-stable}
use Rattle.lockfile.proofs.listed.listed.Goals as goal

pub returns : goal.returns
returns c =
    let sorted = c.in_ok-sort_by.ensures.sorted (λ x y. is_lt (written_cmp (listed_view x) (listed_view y)))
    (ranks_by written_total listed_view) (answers_always _ _ _ (λ f a r g called. search rules)) in
    let stable = c.sort_by.ensures.stable (λ x y. is_lt (written_cmp (listed_view x) (listed_view y)))
    (ranks_by written_total listed_view) (answers_always _ _ _ (λ f a r g called. search rules)) in
    rw (← c.in_ok-found.ensures) (sym (in_order-stable written_total listed_view c.in_ok-found.found.items
    c.sort_by.new.self.items sorted stable))
