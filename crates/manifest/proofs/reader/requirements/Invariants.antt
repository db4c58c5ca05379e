use Rattle.std.proofs.Common.{◌≡◌}
use Rattle.std.specs.Vec.Iter.{into_iter_items}
use Rattle.features.specs.Views.{dependency_views}
use Rattle.manifest.specs.Manifests.{dependencies_of}
use Rattle.manifest.specs.inner.ShapeViews as shaped
use Rattle.model.proofs.Fronts.{with_front}
use Rattle.manifest.proofs.reader.requirements.Given as goal

-- the dependencies so far and those of the shapes that are left are those of all
abbrev pub invariant-shapes : goal.invariant-shapes
invariant-shapes l =
    record {
      can : (goal.iterator-shapes).can_next l.shape-iterator;
      finite : (goal.iterator-shapes).is_finite l.shape-iterator;
      told : with_front (dependency_views l.found.items)
          (dependencies_of (shaped.dependency_views (into_iter_items l.shape-iterator)))
          ≡ dependencies_of (shaped.dependency_views l.fn.shapes.items);
    }
