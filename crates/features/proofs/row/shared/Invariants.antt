use Rattle.std.proofs.Common.{◌≡◌, ◌++◌}
use Rattle.std.specs.Vec.Iter.{into_iter_items}
use Rattle.features.proofs.row.shared.Given as goal

-- the rows so far and those that are left are all
abbrev pub invariant-rows : goal.invariant-rows
invariant-rows l = record {
  can : (goal.iterator-rows).can_next l.name-iterator;
  finite : (goal.iterator-rows).is_finite l.name-iterator;
  told : l.found.items ++ into_iter_items l.name-iterator ≡ l.fn.rows.items;
}
