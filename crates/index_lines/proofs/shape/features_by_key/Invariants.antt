use Rattle.std.proofs.Common.{◌≡◌}
use Rattle.index_lines.specs.Shapes.{features_in}
use Rattle.index_lines.specs.inner.ShapeViews.{feature_views}
use Rattle.trees.specs.Trees.{entries_view, sorted_view}
use Rattle.model.proofs.Fronts.{with_front}
use Rattle.index_lines.proofs.shape.features_by_key.Given as goal

-- the features so far and those of what is left are those of all
abbrev pub invariant-members : goal.invariant-members
invariant-members l =
    record {
      can : (goal.iterator-members).can_next l.name-iterator;
      finite : (goal.iterator-members).is_finite l.name-iterator;
      told : with_front (feature_views l.found.items) (features_in (sorted_view l.name-iterator))
          ≡ features_in (entries_view l.fn.members.items);
    }
