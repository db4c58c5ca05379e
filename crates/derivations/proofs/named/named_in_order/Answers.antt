use Rattle.std.proofs.Common.{◌≡◌, ap, map, rules, subst, sym, ◌∙◌}
use Rattle.std.specs.List.{IsDistinct}
use Rattle.std.specs.Ordering.{eq_by_cmp, is_lt}
use Rattle.std.proofs.lemmas.List.Sorted.{answers_always, IsPermutation-trans, ranks_by}
use Rattle.derivations.specs.inner.Building.{ordered_term}
use Rattle.derivations.specs.inner.Derivations.{term_cmp}
use Rattle.derivations.specs.inner.Named.{named_views, set_in_order_view, set_in_order_views}
use Rattle.model.specs.Order.{in_order}
use Rattle.derivations.proofs.BuildingLaws.{term_total, terms-apart}
use Rattle.model.proofs.Sorting.{sorted-run}
use Rattle.derivations.proofs.named.named_in_order.Goals as goal

pub returns : goal.returns
returns c =
    let sorted = c.sort_unstable_by.ensures.sorted (λ x y. is_lt (term_cmp (set_in_order_view x) (set_in_order_view y)))
    (ranks_by term_total set_in_order_view) (answers_always _ _ _ (λ f a r g called. search rules)) in
    let found : set_in_order_views c.in_ok-found.found.items
    ≡ map ordered_term (named_views c.args.terms.now) = c.in_ok-found.ensures in
    let apart = subst (λ ts. IsDistinct (eq_by_cmp term_cmp) ts) (sym found)
    (terms-apart (named_views c.args.terms.now) c.requires) in
    sorted-run term_total set_in_order_view c.in_ok-found.found.items c.sort_unstable_by.new.self.items
    (IsPermutation-trans c.in_ok-found.found.items c.sort_unstable_by_key.new.self.items
    c.sort_unstable_by.new.self.items c.sort_unstable_by_key.ensures.permutation
    c.sort_unstable_by.ensures.permutation) sorted apart
    ∙ ap (in_order term_cmp) found
