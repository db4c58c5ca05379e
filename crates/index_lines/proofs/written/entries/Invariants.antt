use Rattle.std.proofs.Common.{◌≡◌, drop}
use Rattle.features.specs.EntryViews.{entry_views}
use Rattle.index_lines.specs.Records.{entries_read}
use Rattle.features.specs.Views.{text_views}
use Rattle.model.proofs.Fronts.{with_front}
use Rattle.index_lines.proofs.written.entries.Given as goal

-- the entries so far and those of what is left are those of all
abbrev pub invariant-texts : goal.invariant-texts
invariant-texts l = with_front (entry_views l.found.items) (entries_read (text_views (drop l.text-index l.texts)))
    ≡ entries_read (text_views l.texts)
