use Rattle.std.proofs.Common.{rules}
use Rattle.manifest.specs.Values.{each_member}
use Rattle.manifest.specs.inner.ShapeViews.{dependency_view}
use Rattle.model.proofs.Fronts.{pushed}
use Rattle.manifest.proofs.dependency.dependencies_in.Goals as goal

pub members-preserved : goal.members-preserved
unfolding each_member
members-preserved c = record {
  can = tt;
  finite = tt;
  told =
      pushed dependency_view _ _ _ _ _ _ c.in_ok-push.ensures.items c.in_ok-dependency.ensures (search rules);
}
