use Rattle.std.proofs.Common.{◌∙◌, sym, ap, map}
use Rattle.catalogue.specs.Stores.{records}
use Rattle.catalogue.proofs.Found.{versions_seen, versions_rise}
use Rattle.catalogue.proofs.Rows.{of_row}
use Rattle.catalogue.proofs.store.Catalogue.versions.Goals as goal

pub returns-in-Some-clause-versions : goal.returns-in-Some-clause-versions
returns-in-Some-clause-versions c =
    let found = c.in-Some.candidates.now in
    rw c.as_slice.ensures.value
    (versions_seen found.versions.items found.candidates.items found.beside ∙ sym (ap (λ rs.
    map (λ r. r.version) (records rs)) (of_row c.args.self.now c.args.name.now _ c.in-Some.ensures)))

pub returns-in-Some-clause-rising : goal.returns-in-Some-clause-rising
returns-in-Some-clause-rising c =
    let found = c.in-Some.candidates.now in
    rw c.as_slice.ensures.value (versions_rise found.versions.items found.candidates.items found.beside found.rising)
