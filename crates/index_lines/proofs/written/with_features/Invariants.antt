use Rattle.std.proofs.Common.{◌≡◌, drop}
use Rattle.features.specs.inner.Tables.{rows_of}
use Rattle.index_lines.specs.inner.ShapeViews.{feature_views}
use Rattle.index_lines.specs.Records.{with_features}
use Rattle.index_lines.proofs.written.with_features.Given as goal

-- the features so far, with those that are left, are all of them
abbrev pub invariant-features : goal.invariant-features
invariant-features l = with_features (rows_of l.written.entries) (feature_views (drop l.feature-index l.features))
    ≡ with_features (rows_of l.fn.written.entries) (feature_views l.features)
