use Rattle.std.proofs.Common.{◌≡◌, drop}
use Rattle.std.specs.List.{find}
use Rattle.features.specs.EntryViews.{entry_views}
use Rattle.model.specs.Causes.{enables}
use Rattle.lookups.proofs.first_enabling.first_among.Given as goal

-- the first among the entries that are left is the first of all
abbrev pub invariant-entries : goal.invariant-entries
invariant-entries l =
    find (enables l.name) (entry_views (drop l.entry-index l.entries)) ≡ find (enables l.name) (entry_views l.entries)
