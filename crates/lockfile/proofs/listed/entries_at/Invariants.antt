use Rattle.std.proofs.Common.{◌≡◌, ◌++◌, drop}
use Rattle.lockfile.specs.Spelling.{at_places}
use Rattle.lockfile.specs.inner.Written.{entry_views, listed_views}
use Rattle.lockfile.proofs.listed.entries_at.Given as goal

-- what was found so far and what is at the places left is what is at all places
abbrev pub invariant-places : goal.invariant-places
invariant-places l = listed_views l.found.items ++ at_places (entry_views l.entries) (drop l.place-index l.places)
    ≡ at_places (entry_views l.entries) l.places
