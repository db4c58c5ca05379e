use Rattle.std.proofs.Common.{◌≡◌, map, option_map, take}
use Rattle.semver.specs.Identifiers.{parts_of}
use Rattle.lockfile.specs.inner.Views.{package_views}
use Rattle.changes.specs.inner.Ways.{is_meant}
use Rattle.changes.proofs.on_ways.meant_marks.Given as goal

abbrev pub invariant-packages : goal.invariant-packages
invariant-packages l = l.marks.items
    ≡ map (is_meant l.name (option_map (λ v. parts_of v.now) l.version))
    (package_views (take l.package-index l.packages))
