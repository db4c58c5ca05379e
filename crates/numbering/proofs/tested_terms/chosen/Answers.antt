use Rattle.std.proofs.Common.{ap₂, ◌∙◌}
use Rattle.semver.specs.Identifiers.{parts_of}
use Rattle.classes.specs.Classes.{class_view}
use Rattle.model.specs.Selection.{class_of}
use Rattle.model.specs.Vertices.{pkg}
use Rattle.numbering.proofs.Tested.{chosen_at}
use Rattle.numbering.proofs.tested_terms.chosen.Goals as goal

pub returns : goal.returns
returns c =
    let held = c.args.known.now.problem in
    let v = parts_of c.args.version.now in
    c.package_term.ensures ∙ ap₂ (λ k m. (pkg c.args.name.now k, m)) c.of-class.ensures
    (c.chosen_tests.ensures
    ∙ chosen_at held.manifest.now held.catalogue.now c.args.name.now (class_view c.of-class.result) (class_of v) v
    c.class_versions-versions.result.now c.of-class.ensures c.class_versions-versions.ensures.versions)
