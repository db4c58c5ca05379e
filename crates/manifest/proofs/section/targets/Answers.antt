use Rattle.std.proofs.Common.{rules}
use Rattle.manifest.specs.Dependencies.{targets_in}
use Rattle.manifest.specs.inner.ShapeViews.{dependency_view}
use Rattle.model.proofs.Fronts.{appended}
use Rattle.manifest.proofs.section.targets.Goals as goal

pub members-preserved : goal.members-preserved
unfolding targets_in
members-preserved c = record {
  can = tt;
  finite = tt;
  told = appended dependency_view _ c.in_ok-own.own.items _ _ _ _
      c.in_ok-append.ensures.items c.in_ok-own.ensures (search rules);
}
