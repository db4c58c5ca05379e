use Rattle.std.proofs.Common.{◌≡◌, ◌||◌, ℕ, List}
use Rattle.std.specs.List.{list_any}
use Rattle.features.specs.inner.Tables.{rows_of}
use Rattle.model.specs.Causes.{same_pair}
use Rattle.axioms.specs.inner.Pairs.{has_pair}
use Rattle.axioms.proofs.gathering.put_table.Given as goal

-- with the features of the rows that are left, those of all are there
abbrev pub invariant-rows : goal.invariant-rows
invariant-rows l = record {
  can : (goal.iterator-rows).can_next l.feature-iterator;
  finite : (goal.iterator-rows).is_finite l.feature-iterator;
  told : (n f : List ℕ)
      → (has_pair l.known n f || list_any (λ row. same_pair (n, f) (l.name, row.0)) (rows_of l.feature-iterator))
      ≡ (has_pair l.fn.known n f || list_any (λ row. same_pair (n, f) (l.name, row.0)) l.fn.table);
}
