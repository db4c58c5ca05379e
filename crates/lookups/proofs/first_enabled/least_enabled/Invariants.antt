use Rattle.std.proofs.Common.{◌≡◌, drop}
use Rattle.features.specs.EntryViews.{entry_views}
use Rattle.lookups.specs.inner.ByName.{least_enabled, lesser, named}
use Rattle.lookups.proofs.first_enabled.least_enabled.Given as goal

-- the least so far, or of those that are left, is the least of all
abbrev pub invariant-entries : goal.invariant-entries
invariant-entries l = lesser l.least (least_enabled (named l.numbers) (entry_views (drop l.entry-index l.entries)))
    ≡ least_enabled (named l.numbers) (entry_views l.entries)
