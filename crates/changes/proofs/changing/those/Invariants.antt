use Rattle.std.proofs.Common.{◌≡◌, ◌++◌, drop}
use Rattle.catalogue.specs.Loads.{packages_of_old}
use Rattle.lockfile.specs.inner.Views.{package_views}
use Rattle.changes.specs.inner.Changed.{those}
use Rattle.changes.specs.inner.Views.{lent_views}
use Rattle.changes.proofs.changing.those.Given as goal

-- those so far, with those of the packages that are left, are all
abbrev pub invariant-packages : goal.invariant-packages
invariant-packages l =
    lent_views l.found.items ++ those (packages_of_old l.others) l.had (package_views (drop l.locked-index l.packages))
    ≡ those (packages_of_old l.others) l.had (package_views l.packages)
