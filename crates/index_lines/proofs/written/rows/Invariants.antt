use Rattle.std.proofs.Common.{◌≡◌, drop}
use Rattle.features.specs.inner.Tables.{rows_of}
use Rattle.index_lines.specs.inner.ShapeViews.{feature_views}
use Rattle.index_lines.specs.Records.{features_read}
use Rattle.model.proofs.Fronts.{with_front}
use Rattle.index_lines.proofs.written.rows.Given as goal

-- the rows so far and those of what is left are those of all
abbrev pub invariant-features : goal.invariant-features
invariant-features l = with_front (rows_of l.found.items)
    (features_read (feature_views (drop l.feature-index l.features))) ≡ features_read (feature_views l.features)
