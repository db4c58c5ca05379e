use Rattle.std.proofs.Common.{◌≡◌, map, take}
use Rattle.lockfile.specs.inner.Views.{package_views}
use Rattle.lockfile.specs.inner.Written.{written_of, entry_views}
use Rattle.lockfile.proofs.written_package.entries.Given as goal

-- the entries so far
abbrev pub invariant-packages : goal.invariant-packages
invariant-packages l =
    entry_views l.found.items ≡ map (written_of (package_views l.packages)) (package_views (take l.place l.packages))
