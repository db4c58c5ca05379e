use Rattle.std.proofs.Common.{◌≡◌, drop}
use Rattle.lockfile.specs.inner.Views.{package_views}
use Rattle.catalogue.specs.Loads.{first_changed}
use Rattle.catalogue.proofs.loading.check_packages.Given as goal

-- the first among those that are left is the first of all
abbrev pub invariant-packages : goal.invariant-packages
invariant-packages l = first_changed l.catalogue (package_views (drop l.locked-index l.packages))
    ≡ first_changed l.catalogue (package_views l.packages)
