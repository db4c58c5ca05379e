use Rattle.std.proofs.Common.{◌≡◌, ◌+◌, ◌∷◌, add-one, ap, drop, slice_index_or, sym, subst, ◌∙◌, suc}
use Rattle.std.proofs.Math.Seq.{drop-cons}
use Rattle.incompatibilities.specs.Stores.{entries_view}
use Rattle.incompatibilities.specs.declared.chain.Link.{Link}
use Rattle.solver.specs.inner.Flats.{flats_view}
use Rattle.solver.proofs.FlatRows.{IsPutting, putting_fit, putting_more, putting_none}
use Rattle.solver.proofs.unrolling.unroll_chain.Goals as goal

pub links-init : goal.links-init
links-init g c =
    let tests = g.S.States.tests in
    let es = entries_view tests c.args.store.now in
    let fs = flats_view tests c.args.flats.now.items in
    let place = slice_index_or c.args.places.now c.index.result 0 in
    subst (IsPutting es fs fs c.args.places.now c.args.id place 0) (sym c.links-links.ensures)
    (putting_none es fs c.args.places.now c.args.id place c.args.chain.now c.requires.within c.requires.fits
    c.requires.founded c.requires.placed
    (ap (λ k. slice_index_or c.args.places.now k 0) (c.index.ensures ∙ c.first.ensures)))

pub put_link-requires-clause-fit : goal.put_link-requires-clause-fit
put_link-requires-clause-fit g c =
    let tests = g.S.States.tests in
    let es = entries_view tests c.args.store.now in
    let fs = flats_view tests c.args.flats.now.items in
    let now = flats_view tests c.links.flats.items in
    let i = c.links.link-index in
    let links = c.links-links.result.now in
    let l = c.link-item.result in
    let front : drop i links ≡ l ∷ drop (suc i) links =
    drop-cons links i l c.links-test.true ∙ ap (λ (x : Link). x ∷ drop (suc i) links) (sym c.link-item.is) in
    putting_fit es fs now c.args.places.now c.args.id c.links.place i l (drop (suc i) links) c.requires.lies
    c.requires.within
    (subst (IsPutting es fs now c.args.places.now c.args.id c.links.place i) front c.links.invariant)

pub links-preserved : goal.links-preserved
links-preserved g c =
    let tests = g.S.States.tests in
    let es = entries_view tests c.args.store.now in
    let fs = flats_view tests c.args.flats.now.items in
    let now = flats_view tests c.links.flats.items in
    let new = flats_view tests c.put_link.new.flats.items in
    let i = c.links.link-index in
    let links = c.links-links.result.now in
    let l = c.link-item.result in
    let front : drop i links ≡ l ∷ drop (suc i) links =
    drop-cons links i l c.links-test.true ∙ ap (λ (x : Link). x ∷ drop (suc i) links) (sym c.link-item.is) in
    subst (λ n. IsPutting es fs new c.args.places.now c.args.id c.in_ok-place.place (i + 1) (drop n links))
    (sym (add-one i))
    (putting_more es fs now new c.args.places.now c.args.id c.links.place i c.in_ok-place.place (i + 1) l
    (drop (suc i) links) c.requires.within
    (subst (IsPutting es fs now c.args.places.now c.args.id c.links.place i) front c.links.invariant)
    c.in_ok-place.ensures (add-one i))
