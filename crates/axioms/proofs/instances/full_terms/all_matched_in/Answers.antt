use Rattle.std.proofs.Common.{◌∙◌}
use Rattle.features.specs.Views.{dependency_view}
use Rattle.axioms.proofs.Spaces.{classes_full}
use Rattle.axioms.proofs.instances.full_terms.all_matched_in.Goals as goal

pub returns : goal.returns
returns c =
    let k = c.args.problem.now in
    (rw c.deref.ensures at c.all_matched.ensures) ∙ classes_full k.manifest.now k.catalogue.now
    (dependency_view c.args.dependency.now) c.args.states.now c.versions.result.now c.versions.ensures.versions
