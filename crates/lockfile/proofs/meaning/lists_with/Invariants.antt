use Rattle.std.proofs.Common.{◌≡◌, drop}
use Rattle.lockfile.specs.Locks.{lists_of, locked_packages}
use Rattle.lockfile.specs.inner.Views.{list_views, unlinked_views}
use Rattle.model.proofs.Fronts.{with_front}
use Rattle.lockfile.proofs.meaning.lists_with.Given as goal

-- the lists so far and those of what is left are those of all
abbrev pub invariant-packages : goal.invariant-packages
invariant-packages l =
    with_front (list_views l.found.items)
    (lists_of (locked_packages (unlinked_views l.packages)) (unlinked_views (drop l.package-index l.packages)))
    ≡ lists_of (locked_packages (unlinked_views l.packages)) (unlinked_views l.packages)
