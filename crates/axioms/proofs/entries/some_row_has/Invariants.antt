use Rattle.std.proofs.Common.{◌≡◌}
use Rattle.std.specs.List.{list_any}
use Rattle.features.specs.inner.Tables.{rows_of}
use Rattle.axioms.specs.inner.Entries.{named_view, row_has}
use Rattle.axioms.proofs.entries.some_row_has.Given as goal

-- some row of those that are left has the entry where one of all does
abbrev pub invariant-rows : goal.invariant-rows
invariant-rows l = record {
  can : (goal.iterator-rows).can_next l.row-iterator;
  finite : (goal.iterator-rows).is_finite l.row-iterator;
  told : list_any (row_has (named_view l.fn.named) l.fn.table) (rows_of l.row-iterator)
      ≡ list_any (row_has (named_view l.fn.named) l.fn.table) l.fn.table;
}
