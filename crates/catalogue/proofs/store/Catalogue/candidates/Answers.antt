use Rattle.std.proofs.Common.{◌∙◌, sym, ap, map}
use Rattle.catalogue.specs.Stores.{records, said}
use Rattle.catalogue.proofs.Found.{all_said}
use Rattle.catalogue.proofs.Rows.{of_row}
use Rattle.catalogue.proofs.store.Catalogue.candidates.Goals as goal

pub returns-in-Some : goal.returns-in-Some
returns-in-Some c =
    let found = c.in-Some.candidates.now in
    rw c.as_slice.ensures.value (all_said found.versions.items found.candidates.items found.beside
    ∙ sym (ap (λ rs. map said (records rs)) (of_row c.args.self.now c.args.name.now _ c.in-Some.ensures)))
