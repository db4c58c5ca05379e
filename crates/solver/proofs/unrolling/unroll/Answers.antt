use Rattle.std.proofs.Common.{◌≡◌, ◌<◌, add-one, arith, length, refl, sym, subst}
use Rattle.version_sets.specs.Sets.{has}
use Rattle.incompatibilities.specs.Stores.{entries_view}
use Rattle.solver.specs.inner.Flats.{PutIf, flats_view}
use Rattle.solver.specs.inner.Marks.{IsMarking}
use Rattle.solver.proofs.FlatRows.{IsUnrolling, unrolled, unrolling_more}
use Rattle.solver.proofs.unrolling.unroll.Goals as goal

pub entries-preserved : goal.entries-preserved
entries-preserved g c =
    let tests = g.S.States.tests in
    let es = entries_view tests c.args.store.now in
    let fs = flats_view tests c.entries.flats.items in
    let new = flats_view tests c.put_entry.new.flats.items in
    let ms = c.in_ok-marks.marks.items in
    let id = c.entries.id in
    let long = c.in_ok-marks.ensures.long in
    let within : id < length es =
    omega (arith, c.entries-test.true, c.len-id-end.ensures, long, c.index.ensures, c.requires.within) in
    subst (λ n. IsUnrolling es new ms n c.push.new.self.items) (sym (add-one id))
    (unrolling_more es fs new ms id c.in_ok-place.place c.entries.places.items c.push.new.self.items (has ms id) within
    refl c.entries.invariant
    (subst (λ bs. PutIf es fs new id c.in_ok-place.place (has bs id)) c.deref.ensures.value c.in_ok-place.ensures)
    c.in_ok-push.ensures.items)

pub returns : goal.returns
returns g c =
    let tests = g.S.States.tests in
    let es = entries_view tests c.args.store.now in
    let ms = c.in_ok-marks.marks.items in
    let all : c.entries.id ≡ length ms =
    omega (arith, c.entries-test.false, c.len-id-end.ensures, c.entries.auto.id-end) in
    unrolled es (flats_view tests c.entries.flats.items) ms c.entries.id c.args.last c.entries.places.items
    (subst (λ k. IsMarking es k 0 ms) c.index.ensures c.in_ok-marks.ensures) all c.entries.invariant
