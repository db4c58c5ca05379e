use Rattle.std.proofs.Common.{◌≡◌, ◌∙◌, ap, sym, subst, true}
use Rattle.std.proofs.lemmas.Result.{IfOk-weaker}
use Rattle.terms.specs.Terms.{terms_view}
use Rattle.version_sets.specs.Sets.{has}
use Rattle.incompatibilities.specs.Stores.{entries_view, entry}
use Rattle.incompatibilities.specs.inner.Counts.{given_in, links_in}
use Rattle.solver.specs.inner.Flats.{IsPut, PutIf, flats_view}
use Rattle.solver.proofs.FlatRows.{chain_at, put_axiom}
use Rattle.solver.proofs.unrolling.put_entry.Goals as goal

pub unroll_chain-requires-clause-placed : goal.unroll_chain-requires-clause-placed
unroll_chain-requires-clause-placed g c =
    let tests = g.S.States.tests in
    let es = entries_view tests c.args.store.now in
    let here : has c.args.marks.now c.args.id ≡ true = c.if-not-marks-id.false in
    chain_at es (flats_view tests c.args.flats.now.items) c.args.marks.now c.args.last c.args.id c.args.places.now
    c.in-Learned.chain c.requires.marks here
    (ap (λ k. (entry es k).origin) (sym c.new.ensures) ∙ sym c.origin.ensures.value ∙ c.in-Learned.is)
    c.requires.long c.requires.placed

pub returns-in_ok-copy-in-Axiom : goal.returns-in_ok-copy-in-Axiom
returns-in_ok-copy-in-Axiom g c =
    let tests = g.S.States.tests in
    let es = entries_view tests c.args.store.now in
    let fs = flats_view tests c.args.flats.now.items in
    let new = flats_view tests c.push.new.flats.items in
    let here : has c.args.marks.now c.args.id ≡ true = c.if-not-marks-id.false in
    let is = ap (λ k. (entry es k).origin) (sym c.new.ensures) ∙ sym c.origin.ensures.value ∙ c.in-Axiom.is in
    IfOk-weaker c.push.result _ _ (λ p h. subst (PutIf es fs new c.args.id p) (sym here)
    (subst (λ o. IsPut es fs new c.args.id p (links_in o) (given_in o)) (sym is) (put_axiom es fs new c.args.id p
    c.in-Axiom.kind (terms_view tests c.in_ok-copy-in-Axiom.copy) c.requires.within
    is
    (c.in_ok-copy-in-Axiom.ensures ∙ c.get.ensures.value ∙ ap (λ k. (entry es k).terms) c.new-in-Axiom.ensures)
    c.requires.founded h.0 h.1))) c.push.ensures

pub returns-in-Learned : goal.returns-in-Learned
returns-in-Learned g c =
    let tests = g.S.States.tests in
    let es = entries_view tests c.args.store.now in
    let fs = flats_view tests c.args.flats.now.items in
    let new = flats_view tests c.unroll_chain.new.flats.items in
    let here : has c.args.marks.now c.args.id ≡ true = c.if-not-marks-id.false in
    let is = ap (λ k. (entry es k).origin) (sym c.new.ensures) ∙ sym c.origin.ensures.value ∙ c.in-Learned.is in
    IfOk-weaker c.unroll_chain.result _ _ (λ p h. subst (PutIf es fs new c.args.id p) (sym here)
    (subst (λ o. IsPut es fs new c.args.id p (links_in o) (given_in o)) (sym is) h)) c.unroll_chain.ensures
