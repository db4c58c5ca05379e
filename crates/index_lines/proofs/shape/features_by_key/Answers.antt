use Rattle.std.proofs.Common.{ap, ◌∙◌}
use Rattle.std.proofs.lemmas.List.{map-append}
use Rattle.index_lines.specs.Shapes.{features_in}
use Rattle.index_lines.specs.inner.ShapeViews.{feature_view, feature_views}
use Rattle.model.proofs.Fronts.{with_front-next}
use Rattle.index_lines.proofs.shape.features_by_key.Goals as goal

pub members-preserved : goal.members-preserved
unfolding features_in
members-preserved c =
    let told = rw (c.in-Some.ensures.steps, c.in_ok-feature.ensures.entries) at c.members.invariant.told in
    let pushed = ap feature_views c.in_ok-push.ensures.items ∙ map-append feature_view c.members.found.items _ in
    record {
      can = tt;
      finite = tt;
      told = rw (pushed, c.in_ok-feature.ensures.named) (with_front-next _ _ _ _ told);
    }
