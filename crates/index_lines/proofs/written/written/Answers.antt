use Rattle.std.proofs.Common.{rules, ap, sym, ◌∙◌}
use Rattle.features.specs.inner.Tables.{rows_of}
use Rattle.index_lines.specs.inner.ShapeViews.{feature_views, shape_view}
use Rattle.index_lines.proofs.WrittenLemmas.{none-viewed, nothing-more}
use Rattle.index_lines.proofs.written.written.Goals as goal

pub returns-then-is_empty-clause-read : goal.returns-then-is_empty-clause-read
returns-then-is_empty-clause-read c =
    nothing-more (shape_view c.args.line.now) (rows_of c.in_ok-written.written.items)
    (ap feature_views (sym c.as_slice.ensures.value)
    ∙ none-viewed c.as_slice.result.now (sym c.is_empty.ensures ∙ c.if-is_empty.true)) (search rules)
