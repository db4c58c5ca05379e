use Rattle.std.proofs.Common.{◌≡◌, ◌||◌, ℕ, List}
use Rattle.std.specs.List.{list_any}
use Rattle.features.specs.inner.Tables.{rows_of}
use Rattle.axioms.specs.inner.Asking.{row_may_ask}
use Rattle.axioms.specs.inner.Pairs.{has_pair}
use Rattle.axioms.proofs.gathering.put_rows.Given as goal

-- with what the rows that are left ask for, what all ask for is there
abbrev pub invariant-rows : goal.invariant-rows
invariant-rows l = record {
  can : (goal.iterator-rows).can_next l.row-iterator;
  finite : (goal.iterator-rows).is_finite l.row-iterator;
  told : (d g : List ℕ) → (has_pair l.asked d g || list_any (row_may_ask d g l.fn.table) (rows_of l.row-iterator))
      ≡ (has_pair l.fn.asked d g || list_any (row_may_ask d g l.fn.table) l.fn.table);
}
