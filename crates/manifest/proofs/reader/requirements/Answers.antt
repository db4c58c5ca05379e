use Rattle.std.proofs.Common.{rules}
use Rattle.features.specs.Views.{dependency_view}
use Rattle.manifest.specs.Manifests.{dependencies_of}
use Rattle.model.proofs.Fronts.{pushed}
use Rattle.manifest.proofs.reader.requirements.Goals as goal

pub shapes-preserved : goal.shapes-preserved
unfolding dependencies_of
shapes-preserved c = record {
  can = tt;
  finite = tt;
  told =
      pushed dependency_view _ _ _ _ _ _ c.in_ok-push.ensures.items c.in_ok-with_requirement.ensures (search rules);
}
