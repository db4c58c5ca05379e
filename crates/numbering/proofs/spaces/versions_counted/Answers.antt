use Rattle.classes.specs.Classes.{class_view}
use Rattle.numbering.proofs.Stated.{versions_counted}
use Rattle.numbering.proofs.spaces.versions_counted.Goals as goal

pub returns : goal.returns
returns c =
    let held = c.args.known.now.problem in
    let name = c.args.name.now in
    versions_counted held.manifest.now held.catalogue.now name
    (class_view c.args.class) c.class_versions.result.now c.class_versions.ensures.versions
