use Rattle.std.proofs.Common.{◌≡◌, ◌++◌}
use Rattle.features.specs.inner.Tables.{rows_of}
use Rattle.facts.specs.inner.FactNumbers.{unmarked_for}
use Rattle.facts.proofs.numbering.mark_rows.Given as goal

abbrev pub invariant-rows : goal.invariant-rows
invariant-rows l = record {
  can : (goal.iterator-rows).can_next l.iterator';
  finite : (goal.iterator-rows).is_finite l.iterator';
  marked : l.marked.items ++ unmarked_for (rows_of l.iterator') ≡ l.fn.marked.items ++ unmarked_for l.table;
}
