use Rattle.std.proofs.Common.{◌∷◌, sym, ap, ◌∙◌}
use Rattle.semver.specs.Identifiers.{parts_of}
use Rattle.classes.specs.Classes.{class_view}
use Rattle.model.specs.Vertices.{absent, version}
use Rattle.numbering.proofs.Tested.{map_map, states_here}
use Rattle.numbering.proofs.states.version_states.Goals as goal

pub returns : goal.returns
returns c =
    let held = c.args.known.now.problem in
    let vs = c.class_versions.result.now in
    c.in_ok-states.ensures
    ∙ ap (λ ss. absent ∷ ss) (sym (map_map version parts_of vs) ∙ sym (states_here held.manifest.now held.catalogue.now
    c.args.name.now (class_view c.args.class) vs c.class_versions.ensures.versions))
