use Rattle.std.proofs.Common.{◌≡◌, ◌||◌, ℕ, List}
use Rattle.std.specs.List.{list_any}
use Rattle.features.specs.inner.Tables.{rows_of}
use Rattle.axioms.specs.inner.Asking.{row_names}
use Rattle.axioms.specs.inner.Pairs.{has_pair}
use Rattle.axioms.proofs.gathering.put_root_rows.Given as goal

-- with what the rows that are left ask for, what all ask for is there
abbrev pub invariant-rows : goal.invariant-rows
invariant-rows l = record {
  can : (goal.iterator-rows).can_next l.entries-iterator;
  finite : (goal.iterator-rows).is_finite l.entries-iterator;
  told : (d g : List ℕ) → (has_pair l.asked d g || list_any (row_names d g) (rows_of l.entries-iterator))
      ≡ (has_pair l.fn.asked d g || list_any (row_names d g) l.fn.table);
}
