use Rattle.std.proofs.Common.{◌≡◌, ◌+◌, ◌++◌, length}
use Rattle.features.specs.inner.Tables.{rows_of}
use Rattle.facts.specs.inner.FactNumbers.{numbers_view, numbers_views}
use Rattle.facts.specs.inner.RuleLists.{features_rules}
use Rattle.facts.proofs.RowRules.{numbered_rules}
use Rattle.facts.proofs.rules.features_rules.Given as goal

abbrev pub invariant-rows : goal.invariant-rows
invariant-rows l = record {
  can : (goal.iterator-rows).can_next l.entries-iterator;
  finite : (goal.iterator-rows).is_finite l.entries-iterator;
  counted : l.fact + length (rows_of l.entries-iterator) ≡ l.node.features + length l.table;
  told : l.rules.items
      ++ numbered_rules (numbers_views l.packages) (numbers_view l.node) l.fact (rows_of l.entries-iterator)
      ≡ l.fn.rules.items ++ features_rules (numbers_views l.packages) (numbers_view l.node) l.table;
}
