use Rattle.std.proofs.Common.{◌≡◌, map, take}
use Rattle.lockfile.specs.inner.Views.{package_views}
use Rattle.changes.specs.inner.Ways.{is_own}
use Rattle.changes.proofs.on_ways.own_marks.Given as goal

abbrev pub invariant-packages : goal.invariant-packages
invariant-packages l =
    l.marks.items ≡ map (is_own l.manifest) (package_views (take l.package-index l.packages))
