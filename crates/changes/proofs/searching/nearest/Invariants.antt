use Rattle.std.proofs.Common.{◌≡◌, drop, option_map}
use Rattle.std.specs.List.{find}
use Rattle.semver.specs.Identifiers.{parts_of}
use Rattle.lockfile.specs.inner.Views.{package_views}
use Rattle.changes.specs.inner.Searches.{is_end}
use Rattle.changes.specs.inner.Ways.{is_meant}
use Rattle.changes.proofs.searching.nearest.Given as goal

-- the first among the visits that are left is the first of all
abbrev pub invariant-visits : goal.invariant-visits
invariant-visits l =
    find (is_end (package_views l.packages) (is_meant l.name (option_map (λ v. parts_of v.now) l.version)))
    (drop l.visit-index l.visits)
    ≡ find (is_end (package_views l.packages) (is_meant l.name (option_map (λ v. parts_of v.now) l.version))) l.visits
