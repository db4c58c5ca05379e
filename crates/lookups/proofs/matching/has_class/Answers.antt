use Rattle.std.proofs.Common.{◌∙◌}
use Rattle.classes.specs.Classes.{class_view}
use Rattle.features.specs.Views.{dependency_view}
use Rattle.semver.specs.EvalViews.{matches_views}
use Rattle.lookups.proofs.Classed.{any_classed}
use Rattle.lookups.proofs.matching.has_class.Goals as goal

pub returns : goal.returns
returns c =
    let k = c.args.problem.now in
    let d = dependency_view c.args.dependency.now in
    (rw c.deref.ensures at c.some_within.ensures)
    ∙ any_classed k.manifest.now k.catalogue.now d.real_name
    (class_view c.args.class) c.class_versions-versions.result.now
    c.class_versions-versions.ensures.versions (matches_views d.requirement)
