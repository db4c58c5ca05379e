use Rattle.catalogue.proofs.Valid.{valid_parts}
use Rattle.catalogue.proofs.refusals.parts_are_valid.Goals as goal

pub returns : goal.returns
returns c = valid_parts c.args.manifest.now c.args.catalogue.now c.manifests_bring_valid_parts.ensures
    c.names.ensures.store
