use Rattle.std.proofs.Common.{◌≡◌, Some}
use Rattle.serde_json.specs.Events.{items_len}
use Rattle.serde_json.specs.Find.{as_array}
use Rattle.trees.specs.Trees.{left_items, tree_view}
use Rattle.trees.proofs.TreeLemmas.{before}
use Rattle.trees.proofs.looking.as_list.Given as goal

-- the items so far and those that are left are all
abbrev pub invariant-items : goal.invariant-items
invariant-items l = Some (before l.found.items (left_items l.elements)) ≡ as_array (tree_view l.tree)

abbrev pub decreases-items : goal.decreases-items
decreases-items l = items_len (left_items l.elements)
