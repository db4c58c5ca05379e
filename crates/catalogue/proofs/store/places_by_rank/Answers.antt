use Rattle.catalogue.proofs.Preferences.{all_ranks}
use Rattle.catalogue.proofs.store.places_by_rank.Goals as goal

pub returns : goal.returns
returns c =
    let cs = c.args.candidates.now in
    all_ranks cs.versions.items cs.candidates.items _ _ _ _ cs.beside c.in_ok-order.ensures.items
    (rw c.as_slice.ensures.value at c.in_ok-add_rank.ensures)
    (rw c.as_slice-2.ensures.value at c.in_ok-add_rank-2.ensures)
    (rw c.as_slice-3.ensures.value at c.in_ok-add_rank-3.ensures)
