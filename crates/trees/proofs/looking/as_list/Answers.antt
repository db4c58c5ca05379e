use Rattle.std.proofs.Common.{Some, ap, sym, ◌∙◌}
use Rattle.trees.specs.Trees.{left_items}
use Rattle.trees.proofs.TreeLemmas.{before, before-push, before-none}
use Rattle.trees.proofs.looking.as_list.Goals as goal

pub items-preserved : goal.items-preserved
items-preserved c =
    let found = c.items.found.items in
    ap (λ v. Some (before v (left_items c.next_element.new.elements))) c.in_ok-push.ensures.items
    ∙ ap Some (before-push found _ (left_items c.next_element.new.elements))
    ∙ ap (λ ds. Some (before found ds)) (sym c.in-Some-next_element.ensures) ∙ c.items.invariant

pub returns : goal.returns
returns c =
    let found = c.items.found.items in
    ap Some (sym (before-none found)) ∙ ap (λ ds. Some (before found ds)) (sym c.in_default-next_element.ensures)
    ∙ c.items.invariant
