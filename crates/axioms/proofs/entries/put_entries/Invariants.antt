use Rattle.std.proofs.Common.{◌≡◌, ◌||◌, take}
use Rattle.std.specs.List.{list_any}
use Rattle.features.specs.EntryViews.{entry_views}
use Rattle.model.specs.Causes.{same_entry}
use Rattle.axioms.specs.inner.Entries.{has_named, named_view}
use Rattle.axioms.specs.declared.entries.Named.{Named}
use Rattle.axioms.proofs.entries.put_entries.Given as goal

-- the entries so far are there
abbrev pub invariant-entries : goal.invariant-entries
invariant-entries l = (x : Named) → has_named l.set x ≡ (has_named l.fn.set x
    || list_any (same_entry (named_view x)) (entry_views (take l.entry-index l.entries)))
