use Rattle.std.proofs.Common.{◌≡◌}
use Rattle.lockfile.specs.inner.Views.{package_views}
use Rattle.changes.specs.inner.Searches.{places_below}
use Rattle.changes.specs.inner.Ways.{is_own}
use Rattle.changes.proofs.searching.roots.Given as goal

abbrev pub invariant-places : goal.invariant-places
invariant-places l = l.found.items ≡ places_below (package_views l.packages) (is_own l.manifest) l.place
