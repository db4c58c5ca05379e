use Rattle.std.proofs.Common.{◌≡◌, ◌++◌}
use Rattle.features.proofs.rows.rows_of.Given as goal

-- the rows so far and those that are left are those of the map
abbrev pub invariant-rows : goal.invariant-rows
invariant-rows l = record {
  can : (goal.iterator-rows).can_next l.row-iterator;
  finite : (goal.iterator-rows).is_finite l.row-iterator;
  told : l.rows.items ++ l.row-iterator ≡ l.fn.features.entries;
}
