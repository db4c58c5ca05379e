use Rattle.catalogue.proofs.LawsCatalogues.{store-catalogue}
use Rattle.catalogue.proofs.laws.catalogues_are_well_formed.Goals as goal

pub returns : goal.returns
returns c = store-catalogue c.args.manifest.now c.args.catalogue.now c.names.ensures.store
