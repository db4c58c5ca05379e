use Rattle.std.proofs.Common.{◌≡◌, [], drop}
use denote.Shadow.{shadow}
use denote.Text.{Utf8}
use Rattle.index_lines.specs.inner.Rows.{row_views}
use Rattle.trees.specs.inner.Parts.{keys_rise}
use Rattle.index_lines.proofs.shortcuts.rows.rows_rise.Given as goal

-- all rise where those that are left rise after the one before
abbrev pub invariant-rows : goal.invariant-rows
invariant-rows l = record {
  text : shadow (Utf8 l.before);
  told : keys_rise l.before (row_views (drop l.row-index l.rows))
      ≡ keys_rise [] (row_views l.rows);
}
