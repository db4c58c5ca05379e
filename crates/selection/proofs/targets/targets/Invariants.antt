use Rattle.std.proofs.Common.{◌≡◌, take}
use Rattle.features.specs.Views.{dependency_views}
use Rattle.lockfile.specs.inner.Views.{package_views}
use Rattle.selection.specs.inner.Graphs.{targets_in}
use Rattle.selection.proofs.targets.targets.Given as goal

-- the targets so far
abbrev pub invariant-dependencies : goal.invariant-dependencies
invariant-dependencies l = l.found.items
    ≡ targets_in (package_views l.content) l.list (dependency_views (take l.dependency-index l.dependencies))
