use Rattle.std.proofs.Common.{◌≡◌, ◌++◌, ap, rules, subst, ◌∙◌}
use Rattle.std.specs.List.Sorted.{IsPermutation}
use Rattle.std.specs.Ordering.{is_lt}
use Rattle.std.proofs.lemmas.List.Sorted.{answers_always, ranks_by}
use Rattle.vertices.specs.Orders.{state_cmp}
use Rattle.vertices.specs.inner.RefViews.{state_ref_view}
use Rattle.vertices.proofs.OrderLaws.{state_total}
use Rattle.model.proofs.Sorting.{sorted-run}
use Rattle.derivations.proofs.named.sorted_states.Goals as goal

pub returns : goal.returns
returns c =
    let sorted = c.sort_unstable_by.ensures.sorted (λ x y. is_lt (state_cmp (state_ref_view x) (state_ref_view y)))
    (ranks_by state_total state_ref_view) (answers_always _ _ _ (λ f a r g called. search rules)) in
    let copied : c.extend_from_slice.new.self.items ≡ c.args.states.now =
    c.in_ok-extend_from_slice.ensures.items ∙ ap (λ xs. xs ++ c.args.states.now) c.in_ok-ordered.ensures.items in
    sorted-run state_total state_ref_view c.args.states.now c.sort_unstable_by.new.self.items
    (subst (λ xs. IsPermutation xs c.sort_unstable_by.new.self.items) copied c.sort_unstable_by.ensures.permutation)
    sorted c.requires
