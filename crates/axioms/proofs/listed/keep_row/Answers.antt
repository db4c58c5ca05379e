use Rattle.std.proofs.Common.{ap, ◌∙◌}
use Rattle.std.specs.List.{list_any}
use Rattle.features.specs.EntryViews.{entry_views}
use Rattle.model.specs.Causes.{same_entry}
use Rattle.vertices.specs.declared.vertex.OwnerRef.TheVariants.{Version}
use Rattle.lookups.specs.inner.Numbers.{Row}
use Rattle.lookups.proofs.Kept.{put_of_row}
use Rattle.axioms.specs.inner.Entries.{named_view}
use Rattle.axioms.specs.inner.GatheredViews.{problem_of}
use Rattle.axioms.specs.inner.Listed.{AreOfRow}
use Rattle.axioms.proofs.EntryLemmas.{all_added}
use Rattle.axioms.proofs.listed.keep_row.Goals as goal

pub invariant_of-gathered-clause-rows_are : goal.invariant_of-gathered-clause-rows_are
invariant_of-gathered-clause-rows_are c =
    let row : Row = (Version c.args.name c.args.version, c.args.on) in
    let set = c.put_entries.new.set in
    put_of_row (AreOfRow (problem_of c.args.gathered.now)) c.args.gathered.now.rows c.insert.new.self row set
    c.insert.result c.insert.ensures.updates c.insert.ensures.err c.args.gathered.now.rows_are
    (λ x. all_added c.new-set.result set (λ e. list_any (same_entry e) (entry_views c.entries_of-entries.result.now))
    c.new-set.ensures.empty c.in_ok-put_entries.ensures x
    ∙ ap (list_any (same_entry (named_view x))) c.entries_of-entries.ensures)
