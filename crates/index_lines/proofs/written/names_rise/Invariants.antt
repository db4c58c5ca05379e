use Rattle.std.proofs.Common.{◌≡◌, [], drop}
use denote.Shadow.{shadow}
use denote.Text.{Utf8}
use Rattle.index_lines.specs.inner.ShapeViews.{feature_views}
use Rattle.index_lines.specs.Records.{names_rise}
use Rattle.index_lines.proofs.written.names_rise.Given as goal

-- all rise where those that are left rise after the one before
abbrev pub invariant-features : goal.invariant-features
invariant-features l = record {
  text : shadow (Utf8 l.before);
  told : names_rise l.before (feature_views (drop l.feature-index l.features))
      ≡ names_rise [] (feature_views l.features);
}
