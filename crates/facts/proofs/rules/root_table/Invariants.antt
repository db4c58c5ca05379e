use Rattle.std.proofs.Common.{◌≡◌, ◌++◌}
use Rattle.features.specs.inner.Tables.{rows_of}
use Rattle.facts.specs.inner.FactNumbers.{numbers_view, numbers_views}
use Rattle.facts.specs.inner.RuleLists.{root_table}
use Rattle.facts.proofs.rules.root_table.Given as goal

abbrev pub invariant-rows : goal.invariant-rows
invariant-rows l = record {
  can : (goal.iterator-rows).can_next l.entries-iterator;
  finite : (goal.iterator-rows).is_finite l.entries-iterator;
  told : l.rules.items ++ root_table (numbers_views l.packages) (numbers_view l.node) (rows_of l.entries-iterator)
      ≡ l.fn.rules.items ++ root_table (numbers_views l.packages) (numbers_view l.node) l.table;
}
