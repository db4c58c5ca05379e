use Rattle.std.proofs.Common.{◌≡◌, ◌∙◌, map}
use Rattle.std.proofs.lemmas.Result.{IfOk-weaker}
use Rattle.classes.specs.Classes.{class_view}
use Rattle.features.specs.Views.{dependency_view}
use Rattle.lookups.specs.inner.Views.{problem_view}
use Rattle.model.specs.Vertices.{dep_classes}
use Rattle.numbering.proofs.Grouped.{classes_are}
use Rattle.numbering.proofs.matched.match_anew.Goals as goal

pub returns : goal.returns
returns c =
    let k = c.args.problem.now in
    let d = dependency_view c.args.dependency.now in
    IfOk-weaker c.classes_matched.result _
    (λ ks. map class_view ks.items ≡ dep_classes (problem_view k) d)
    (λ ks e. e ∙ classes_are k.manifest.now k.catalogue.now d c.versions-versions.result.now
    c.catalogues_are_well_formed.ensures c.versions-versions.ensures.versions)
    (rw c.deref-requirement.ensures at c.classes_matched.ensures)
