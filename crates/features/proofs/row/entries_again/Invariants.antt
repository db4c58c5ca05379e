use Rattle.std.proofs.Common.{◌≡◌, take}
use Rattle.features.specs.EntryViews.{entry_views}
use Rattle.features.proofs.row.entries_again.Given as goal

-- the copies so far are of the entries so far
abbrev pub invariant-entries : goal.invariant-entries
invariant-entries l = entry_views l.found.items ≡ entry_views (take l.entry-index l.entries)
