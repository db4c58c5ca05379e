use Rattle.features.specs.EntryViews.{entry_view}
use Rattle.axioms.proofs.EntryLemmas.{entry_put}
use Rattle.axioms.proofs.entries.put_entry.Goals as goal

pub returns : goal.returns
returns c = entry_put c.args.set.now c.insert.new.self c.of.result (entry_view c.args.entry.now) c.of.ensures
    c.in_ok-insert.ensures.updates
