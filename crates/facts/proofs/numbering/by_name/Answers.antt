use Rattle.std.proofs.Common.{rules, map, sym, ap, ◌∙◌, subst}
use Rattle.std.specs.Cmp.Lexicographic.{nat_list_cmp_total}
use Rattle.std.specs.List.Sorted.{IsStableByKey}
use Rattle.std.specs.Ordering.{is_lt}
use Rattle.std.proofs.lemmas.List.Sorted.{answers_always, ranks_by}
use Rattle.model.specs.Order.{text_cmp}
use Rattle.model.specs.Summary.{same_text}
use Rattle.facts.specs.inner.ByName.{name_of}
use Rattle.facts.specs.inner.FactNumbers.{link_view}
use Rattle.facts.proofs.ByName.{filter-seen, same_named}
use Rattle.facts.proofs.numbering.by_name.Goals as goal

pub returns-clause-order : goal.returns-clause-order
returns-clause-order c = c.in_ok-sort_by.ensures.sorted (λ x y. is_lt (text_cmp (name_of x) (name_of y)))
    (ranks_by nat_list_cmp_total name_of) (answers_always _ _ _ (λ f a r g called. search rules))

pub returns-clause-called : goal.returns-clause-called
returns-clause-called c =
    let links = c.args.links.now in
    let called = c.sort_by.new.self.items in
    let stable = subst (λ xs. IsStableByKey name_of text_cmp xs called) c.in_ok-called.ensures.items
    (c.sort_by.ensures.stable (λ x y. is_lt (text_cmp (name_of x) (name_of y)))
    (ranks_by nat_list_cmp_total name_of) (answers_always _ _ _ (λ f a r g called. search rules))) in
    λ d. filter-seen link_view (λ l. same_text d l.dependency.name) called
    ∙ ap (λ xs. map link_view xs) (same_named name_of links called stable d)
    ∙ sym (filter-seen link_view (λ l. same_text d l.dependency.name) links)
