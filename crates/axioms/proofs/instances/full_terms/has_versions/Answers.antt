use Rattle.std.proofs.Common.{◌∙◌}
use Rattle.classes.specs.Classes.{class_view}
use Rattle.axioms.proofs.Spaces.{versions_full}
use Rattle.axioms.proofs.instances.full_terms.has_versions.Goals as goal

pub returns : goal.returns
returns c =
    let k = c.args.problem.now in
    c.all_in.ensures ∙ versions_full k.manifest.now k.catalogue.now c.args.name.now
    (class_view c.args.class) c.args.states.now c.class_versions.result.now c.class_versions.ensures.versions
