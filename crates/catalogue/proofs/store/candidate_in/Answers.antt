use Rattle.std.proofs.Common.{◌∙◌, sym, ap, option_map}
use Rattle.semver.specs.Identifiers.{parts_of}
use Rattle.catalogue.specs.Stores.{said, said_by}
use Rattle.catalogue.proofs.Found.{versions_rise, none_found, candidate_found}
use Rattle.catalogue.proofs.Rows.{item_at}
use Rattle.catalogue.proofs.store.candidate_in.Goals as goal

pub place_of-requires : goal.place_of-requires
place_of-requires c =
    let cs = c.args.candidates.now in
    rw c.as_slice.ensures.value (versions_rise cs.versions.items cs.candidates.items cs.beside cs.rising)

pub returns-in_err-place : goal.returns-in_err-place
returns-in_err-place c =
    let cs = c.args.candidates.now in
    rw c.from_residual.ensures (sym (ap (option_map said) (none_found cs.versions.items cs.candidates.items
    (parts_of c.args.version.now) (rw c.as_slice.ensures.value at c.in_err-place.ensures))))

pub returns : goal.returns
returns c =
    let cs = c.args.candidates.now in
    let got = rw c.deref.ensures.value at
    (item_at said_by c.deref.result.now c.in_ok-place.place c.get.result c.get.ensures.lookup) in
    got ∙ candidate_found cs.versions.items cs.candidates.items
    (parts_of c.args.version.now) c.in_ok-place.place cs.beside
    cs.rising (rw c.as_slice.ensures.value at c.in_ok-place.ensures)
