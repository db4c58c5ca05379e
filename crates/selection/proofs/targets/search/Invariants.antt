use Rattle.std.proofs.Common.{◌≡◌, ◌≤◌, take, length}
use Rattle.model.specs.Content.{last_serving}
use Rattle.features.specs.Views.{dependency_view}
use Rattle.lockfile.specs.inner.Views.{package_views}
use Rattle.selection.proofs.targets.search.Given as goal

-- none of the places that were looked at serves
abbrev pub invariant-places : goal.invariant-places
invariant-places l = record {
  within : l.left ≤ length l.list;
  told : last_serving (package_views l.content) (dependency_view l.dependency) (take l.left l.list)
      ≡ last_serving (package_views l.content) (dependency_view l.dependency) l.list;
}

abbrev pub decreases-places : goal.decreases-places
decreases-places l = l.left
