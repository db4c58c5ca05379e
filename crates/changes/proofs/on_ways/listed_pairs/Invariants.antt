use Rattle.std.proofs.Common.{◌≡◌}
use Rattle.lockfile.specs.inner.Views.{package_views}
use Rattle.changes.specs.inner.OnWays.{pairs_below}
use Rattle.changes.proofs.on_ways.listed_pairs.Given as goal

abbrev pub invariant-places : goal.invariant-places
invariant-places l = l.pairs.items ≡ pairs_below (package_views l.packages) l.place
