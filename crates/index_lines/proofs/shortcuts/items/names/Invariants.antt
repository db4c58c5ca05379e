use Rattle.std.proofs.Common.{◌≡◌, take}
use Rattle.features.specs.inner.Tables.{dep_names_view}
use Rattle.index_lines.specs.inner.Items.{item_names}
use Rattle.index_lines.proofs.shortcuts.items.names.Given as goal

-- the names so far are those of the items so far
abbrev pub invariant-items : goal.invariant-items
invariant-items l = dep_names_view l.found.items ≡ item_names (take l.item-index l.items)
