use Rattle.features.specs.EntryViews.{entry_views}
use Rattle.index_lines.proofs.RowsLemmas.{is-row}
use Rattle.index_lines.proofs.shortcuts.row.RowRead.of.Goals as goal

pub invariant_of-result : goal.invariant_of-result
invariant_of-result c = record {
  read = is-row c.args.bytes.now c.in-Some.key.now c.in-Some.value.now c.in_ok-row.row.0
      (entry_views c.in_ok-row.row.1.items) c.in-Some.ensures.0 c.in-Some.ensures.1 c.in_ok-row.ensures;
}
