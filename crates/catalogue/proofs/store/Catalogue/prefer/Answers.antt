use Rattle.catalogue.proofs.Preferences.{once_so, preferred_so}
use Rattle.catalogue.proofs.Rows.{of_row}
use Rattle.catalogue.proofs.store.Catalogue.prefer.Goals as goal

pub returns-in-Some-clause-once : goal.returns-in-Some-clause-once
returns-in-Some-clause-once c =
    once_so _ _ _ (of_row c.args.self.now c.args.name.now _ c.in-Some.ensures) c.places_by_rank.ensures

pub returns-in-Some-clause-preferred : goal.returns-in-Some-clause-preferred
returns-in-Some-clause-preferred c =
    preferred_so _ _ _ (of_row c.args.self.now c.args.name.now _ c.in-Some.ensures) c.places_by_rank.ensures
