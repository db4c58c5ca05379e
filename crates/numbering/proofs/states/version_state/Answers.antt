use Rattle.std.proofs.Common.{◌∙◌}
use Rattle.classes.specs.Classes.{class_view}
use Rattle.numbering.proofs.Stated.{versions_space}
use Rattle.numbering.proofs.states.version_state.Goals as goal

pub returns : goal.returns
returns c =
    let held = c.args.known.now.problem in
    let name = c.args.name.now in
    let n = c.args.number in
    c.version_at.ensures
    ∙ versions_space held.manifest.now held.catalogue.now name
    (class_view c.args.class) c.class_versions-versions.result.now n c.class_versions-versions.ensures.versions
