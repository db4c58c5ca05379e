use Rattle.std.proofs.Common.{◌∙◌}
use Rattle.std.proofs.lemmas.Result.{IfOk-weaker}
use Rattle.features.specs.Views.{dependency_view}
use Rattle.axioms.proofs.Classes.{classes_all_matched}
use Rattle.axioms.proofs.Spaces.{classes_full}
use Rattle.axioms.proofs.instances.matched_classes.matched_classes.Goals as goal

pub returns : goal.returns
returns c =
    let k = c.args.problem.now in
    let d = dependency_view c.args.dependency.now in
    let vs = c.versions-versions.result.now in
    IfOk-weaker c.classes_matched.result _ _
    (λ ks e ss. classes_all_matched ss d.requirement vs ks.items e
    ∙ classes_full k.manifest.now k.catalogue.now d ss vs c.versions-versions.ensures.versions)
    (rw c.deref-requirement.ensures at c.classes_matched.ensures)
