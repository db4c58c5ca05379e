use Rattle.std.proofs.Common.{◌≡◌, drop}
use Rattle.index_lines.specs.Records.{required}
use Rattle.index_lines.specs.inner.ShapeViews.{line_dependency_views}
use Rattle.index_lines.specs.Views.{required_views}
use Rattle.model.proofs.Fronts.{with_front}
use Rattle.index_lines.proofs.whole.requirements.Given as goal

-- the parts so far and those of what is left are those of all
abbrev pub invariant-shapes : goal.invariant-shapes
invariant-shapes l = with_front (required_views l.found.items)
    (required (line_dependency_views (drop l.shape-index l.shapes))) ≡ required (line_dependency_views l.shapes)
