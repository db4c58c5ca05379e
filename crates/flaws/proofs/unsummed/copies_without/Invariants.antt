use Rattle.std.proofs.Common.{◌≡◌, map, take}
use Rattle.lockfile.specs.inner.Views.{package_views}
use Rattle.flaws.specs.inner.Unsummed.{without_checksum}
use Rattle.flaws.proofs.unsummed.copies_without.Given as goal

-- the copies are those of the packages so far
abbrev pub invariant-packages : goal.invariant-packages
invariant-packages l =
    package_views l.copies.items ≡ map without_checksum (package_views (take l.locked-index l.packages))
