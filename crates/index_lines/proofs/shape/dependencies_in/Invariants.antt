use Rattle.std.proofs.Common.{◌≡◌}
use Rattle.serde_json.specs.Events.{items_len}
use Rattle.trees.specs.Trees.{left_items}
use Rattle.index_lines.specs.Shapes.{dependencies_in}
use Rattle.index_lines.specs.inner.ShapeViews.{line_dependency_views}
use Rattle.model.proofs.Fronts.{with_front}
use Rattle.index_lines.proofs.shape.dependencies_in.Given as goal

-- the dependencies so far and those of what is left are those of all
abbrev pub invariant-items : goal.invariant-items
invariant-items l = with_front (line_dependency_views l.found.items) (dependencies_in (left_items l.items))
    ≡ dependencies_in (left_items l.fn.items)

abbrev pub decreases-items : goal.decreases-items
decreases-items l = items_len (left_items l.items)
