use Rattle.std.proofs.Common.{◌≡◌, drop}
use Rattle.index_lines.specs.Shapes.{features_in}
use Rattle.index_lines.specs.inner.ShapeViews.{feature_views}
use Rattle.trees.specs.Trees.{listed_view}
use Rattle.model.proofs.Fronts.{with_front}
use Rattle.index_lines.proofs.shape.features_as_listed.Given as goal

-- the features so far and those of what is left are those of all
abbrev pub invariant-members : goal.invariant-members
invariant-members l = with_front (feature_views l.found.items)
    (features_in (listed_view (drop l.member-index l.member-items))) ≡ features_in (listed_view l.member-items)
