use Rattle.std.proofs.Common.{◌∙◌, true}
use Rattle.classes.specs.Classes.{class_view}
use Rattle.lookups.proofs.Classed.{any_classed}
use Rattle.axioms.proofs.has_feature.has_candidate.Goals as goal

pub returns : goal.returns
returns c =
    let k = c.args.problem.now in
    c.has_one.ensures
    ∙ any_classed k.manifest.now k.catalogue.now c.args.name.now
    (class_view c.args.class) c.class_versions.result.now c.class_versions.ensures.versions (λ v. true)
