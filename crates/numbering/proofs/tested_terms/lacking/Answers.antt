use Rattle.std.proofs.Common.{ap, ◌∙◌}
use Rattle.classes.specs.Classes.{class_view}
use Rattle.model.specs.Vertices.{pkg}
use Rattle.numbering.proofs.Tested.{lacking_is}
use Rattle.numbering.proofs.tested_terms.lacking.Goals as goal

pub returns : goal.returns
returns c =
    let held = c.args.known.now.problem in
    c.package_term.ensures ∙ ap (λ m. (pkg c.args.name.now (class_view c.args.class), m))
    (c.in_ok-tests.ensures ∙ lacking_is held.manifest.now held.catalogue.now c.args.name.now (class_view c.args.class)
    c.args.feature.now c.class_candidates-candidates.result.now c.catalogues_are_well_formed.ensures
    c.class_candidates-candidates.ensures)
