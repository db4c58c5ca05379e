use Rattle.std.proofs.Common.{◌≡◌, ◌<◌, ◌++◌, length}
use Rattle.trees.specs.inner.Parts.{between_commas}
use Rattle.index_lines.specs.inner.Items.{item_texts}
use Rattle.index_lines.proofs.shortcuts.items.items_from.Given as goal

-- there is an item so far, and the texts of all of them, with what is left, are those from the first on
abbrev pub invariant-items : goal.invariant-items
invariant-items l = (0 < length (item_texts l.found.items))
    × (l.fn.first.item.bytes.now ++ l.fn.first.left.now ≡ between_commas (item_texts l.found.items) ++ l.left)

abbrev pub decreases-items : goal.decreases-items
decreases-items l = length l.left
