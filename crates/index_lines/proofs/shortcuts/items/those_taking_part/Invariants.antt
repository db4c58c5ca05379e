use Rattle.std.proofs.Common.{◌≡◌, ◌++◌, drop}
use Rattle.features.specs.Views.{dependency_views}
use Rattle.index_lines.specs.inner.Items.{those_taking_part}
use Rattle.index_lines.proofs.shortcuts.items.those_taking_part.Given as goal

-- those so far and those of what is left are those of all
abbrev pub invariant-items : goal.invariant-items
invariant-items l = dependency_views l.found.items ++ those_taking_part (drop l.item-index l.items)
    ≡ those_taking_part l.items
