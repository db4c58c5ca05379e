use Rattle.std.proofs.Common.{◌≡◌}
use Rattle.std.specs.Vec.Iter.{into_iter_items}
use Rattle.features.specs.inner.Drafts.{with_rows}
use Rattle.features.specs.inner.Tables.{AreRising, rows_of}
use Rattle.features.proofs.rows.with_few.Given as goal

-- the rows so far with those that are left are the rows with all of them
abbrev pub invariant-rows : goal.invariant-rows
invariant-rows l = record {
  can : (goal.iterator-rows).can_next l.row-iterator;
  finite : (goal.iterator-rows).is_finite l.row-iterator;
  rising : AreRising l.rows.items;
  told : with_rows (rows_of l.rows.items) (rows_of (into_iter_items l.row-iterator))
      ≡ with_rows (rows_of l.fn.rows.items) (rows_of l.fn.more.items);
}
