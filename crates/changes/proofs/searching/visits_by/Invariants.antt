use Rattle.std.proofs.Common.{◌-◌, length}
use Rattle.lockfile.specs.inner.Views.{package_views}
use Rattle.changes.specs.inner.Searches.{AreBegun, IsSearching}
use Rattle.changes.specs.inner.Ways.{is_own}
use Rattle.changes.proofs.searching.visits_by.Given as goal

abbrev pub invariant-visits : goal.invariant-visits
invariant-visits l = record {
  searching : IsSearching (package_views l.packages) (is_own l.manifest) l.next l.seen l.visits.items;
  begun : AreBegun (package_views l.packages) (is_own l.manifest) l.visits.items;
}

-- each package is visited once at most
abbrev pub decreases-visits : goal.decreases-visits
decreases-visits l = length l.packages - l.next
