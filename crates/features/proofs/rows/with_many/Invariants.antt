use Rattle.std.proofs.Common.{◌≡◌}
use Rattle.std.specs.Vec.Iter.{into_iter_items}
use Rattle.features.specs.inner.Drafts.{with_rows}
use Rattle.features.specs.inner.Tables.{rows_of}
use Rattle.features.proofs.rows.with_many.Given as goal

-- the table so far with the rows that are left is the table with all of them
abbrev pub invariant-rows : goal.invariant-rows
invariant-rows l = record {
  can : (goal.iterator-rows).can_next l.name-iterator;
  finite : (goal.iterator-rows).is_finite l.name-iterator;
  told : with_rows (rows_of l.features.entries) (rows_of (into_iter_items l.name-iterator))
      ≡ with_rows (rows_of l.fn.rows) (rows_of l.fn.more);
}
