use Rattle.std.proofs.Common.{◌≡◌, ◌||◌}
use Rattle.std.specs.List.{list_any}
use Rattle.features.specs.inner.Tables.{rows_of}
use Rattle.axioms.specs.inner.Entries.{has_named, named_view, row_has}
use Rattle.axioms.specs.declared.entries.Named.{Named}
use Rattle.axioms.proofs.entries.put_rows.Given as goal

-- with the entries of the rows that are left, those of all are there
abbrev pub invariant-rows : goal.invariant-rows
invariant-rows l = record {
  can : (goal.iterator-rows).can_next l.row-iterator;
  finite : (goal.iterator-rows).is_finite l.row-iterator;
  told : (x : Named)
      → (has_named l.set x || list_any (row_has (named_view x) l.fn.table) (rows_of l.row-iterator))
      ≡ (has_named l.fn.set x || list_any (row_has (named_view x) l.fn.table) l.fn.table);
}
