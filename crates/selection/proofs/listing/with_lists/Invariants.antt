use Rattle.std.proofs.Common.{◌≡◌, ◌++◌, List, length, map}
use Rattle.std.specs.Vec.Iter.{into_iter_items, into_iter_len}
use Rattle.facts.specs.inner.Graphs.{node_views}
use Rattle.lockfile.specs.inner.Views.{package_views}
use Rattle.selection.specs.inner.Contents.{HaveLists, Placed, placed_views}
use Rattle.selection.proofs.listing.with_lists.Given as goal

-- those so far have their lists
abbrev pub invariant-kept : goal.invariant-kept
invariant-kept l =
    record {
      can : (goal.iterator-kept).can_next l.kept-iterator;
      finite : (goal.iterator-kept).is_finite l.kept-iterator;
      counted : into_iter_len l.kept-iterator ≡ length (into_iter_items l.kept-iterator);
      told : (done : List Placed)
          × (done ++ placed_views (into_iter_items l.kept-iterator) ≡ placed_views l.fn.kept.items)
          × HaveLists (node_views l.nodes) (map (λ v. v.items) l.enabled) l.ranks done (package_views l.packages.items);
    }
