use Rattle.std.proofs.Common.{◌≡◌, ◌++◌, [], ◌∷◌, ap, ◌∙◌}
use Rattle.std.proofs.lemmas.List.{map-append}
use Rattle.index_lines.specs.inner.Items.{item_texts}
use Rattle.index_lines.proofs.ItemsLemmas.{with-next}
use Rattle.index_lines.proofs.shortcuts.items.items_from.Goals as goal

pub items-preserved : goal.items-preserved
items-preserved c =
    let first = c.args.first in
    let texts = item_texts c.items.found.items in
    let next = c.in_ok-next.next in
    let pushed : item_texts c.push-in-Some.new.self.items ≡ texts ++ next.item.bytes.now ∷ [] =
    ap item_texts c.in_ok-push-2.ensures.items ∙ map-append (λ i. i.bytes.now) c.items.found.items (next.item ∷ []) in
    rw pushed (with-next (first.item.bytes.now ++ first.left.now) texts next.item.bytes.now c.items.left.now
    c.in-Some.items.now next.left.now c.items.invariant.0 c.items.invariant.1 c.in-Some.ensures c.in_ok-next.ensures)
