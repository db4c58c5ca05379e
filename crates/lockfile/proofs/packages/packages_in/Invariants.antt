use Rattle.std.proofs.Common.{◌≡◌, drop}
use Rattle.toml.specs.View.{items_view}
use Rattle.lockfile.specs.Locks.{each_item, unlinked_of}
use Rattle.lockfile.specs.inner.Views.{unlinked_views}
use Rattle.model.proofs.Fronts.{with_front}
use Rattle.lockfile.proofs.packages.packages_in.Given as goal

-- the packages so far and those of what is left are those of all
abbrev pub invariant-items : goal.invariant-items
invariant-items l = with_front (unlinked_views l.found.items)
    (each_item unlinked_of (items_view (drop l.value-index l.values.items)))
    ≡ each_item unlinked_of (items_view l.values.items)
