use Rattle.std.proofs.Common.{◌≡◌, take}
use Rattle.features.specs.inner.Tables.{rows_of}
use Rattle.index_lines.specs.inner.Rows.{row_views}
use Rattle.index_lines.proofs.shortcuts.rows.copied_rows.Given as goal

-- the rows so far are those of the features so far
abbrev pub invariant-rows : goal.invariant-rows
invariant-rows l = rows_of l.found.items ≡ row_views (take l.row-index l.rows)
