use Rattle.std.proofs.Common.{◌≡◌, ℕ, List, drop}
use Rattle.std.specs.List.{find}
use Rattle.std.specs.Option.{option_or}
use Rattle.features.specs.EntryViews.{entry_views}
use Rattle.model.specs.Causes.{enables}
use Rattle.lookups.specs.inner.ByName.{entry_named}
use Rattle.lookups.proofs.first_enabling.first_entries.Given as goal

-- the first among the entries so far, or else among those that are left, is the first of all
abbrev pub invariant-entries : goal.invariant-entries
invariant-entries l = (d : List ℕ) →
    option_or (entry_named l.firsts d) (find (enables d) (entry_views (drop l.entry-index l.entries)))
    ≡ find (enables d) (entry_views l.entries)
