use Rattle.std.proofs.Common.{◌≡◌, ◌<◌, ◌++◌, length}
use Rattle.trees.specs.inner.Parts.{between_commas}
use Rattle.index_lines.specs.inner.Rows.{row_texts}
use Rattle.index_lines.proofs.shortcuts.rows.rows_from.Given as goal

-- there is a feature so far, and the texts of all of them, with what is left, are those from the first on
abbrev pub invariant-members : goal.invariant-members
invariant-members l = (0 < length (row_texts l.found.items))
    × (l.fn.first.row.bytes.now ++ l.fn.first.left.now ≡ between_commas (row_texts l.found.items) ++ l.left)

abbrev pub decreases-members : goal.decreases-members
decreases-members l = length l.left
