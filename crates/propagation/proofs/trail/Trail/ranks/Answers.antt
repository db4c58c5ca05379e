use Rattle.std.proofs.Common.{◌≡◌, ◌<◌, ◌+◌, suc, Some, length, sym, subst, arith}
use Rattle.std.proofs.lemmas.List.{length-map}
use Rattle.terms.specs.Terms.{TermView, term_view, terms_view}
use Rattle.propagation.specs.inner.Counting.{IsCount, Ranked}
use Rattle.incompatibilities.specs.Incompatibilities.{HoldsAt}
use Rattle.propagation.specs.Trails.{set_of, space_of, trail_view}
use Rattle.propagation.specs.inner.Units.{term_at}
use Rattle.propagation.proofs.Counts.{count_some}
use Rattle.propagation.proofs.Ranking.{rank_more}
use Rattle.propagation.proofs.Vertices.{full_at, states_of, term_fits, term_within, view_at}
use Rattle.propagation.proofs.trail.Trail.ranks.Goals as goal

pub places_of-places-requires-clause-vertex : goal.places_of-places-requires-clause-vertex
places_of-places-requires-clause-vertex g c =
    let tests = g.S.States.tests in
    let ts = c.args.terms.now in
    let t = c.index-terms-place.result in
    let here : term_at (terms_view tests ts) c.terms.place ≡ term_view tests t =
    view_at (term_view tests) ts c.terms.place t _ c.terms-test.true c.index-terms-place.is in
    subst (λ (x : TermView). x.vertex < length (trail_view tests c.args.self.now).sets) here
    (term_within (trail_view tests c.args.self.now) (terms_view tests ts) c.terms.place c.requires.lies
    (rw length-map c.terms-test.true))

pub places_of-places-requires-clause-fits : goal.places_of-places-requires-clause-fits
places_of-places-requires-clause-fits g c =
    let tests = g.S.States.tests in
    let ts = c.args.terms.now in
    let t = c.index-terms-place.result in
    let here : term_at (terms_view tests ts) c.terms.place ≡ term_view tests t =
    view_at (term_view tests) ts c.terms.place t _ c.terms-test.true c.index-terms-place.is in
    subst (λ (x : TermView). length x.states ≡ space_of (trail_view tests c.args.self.now) x.vertex) here
    (term_fits (trail_view tests c.args.self.now) (terms_view tests ts) c.terms.place c.requires.lies
    (rw length-map c.terms-test.true))

pub places_of-places-requires-clause-holds : goal.places_of-places-requires-clause-holds
places_of-places-requires-clause-holds g c =
    let tests = g.S.States.tests in
    let ts = c.args.terms.now in
    let all = terms_view tests ts in
    let sets = (trail_view tests c.args.self.now).sets in
    let t = c.index-terms-place.result in
    let here : term_at all c.terms.place ≡ term_view tests t =
    view_at (term_view tests) ts c.terms.place t _ c.terms-test.true c.index-terms-place.is in
    subst (λ (x : TermView). HoldsAt (set_of sets x.vertex) (Some x.states)) here
    (subst (HoldsAt (set_of sets (term_at all c.terms.place).vertex))
    (states_of all c.terms.place c.requires.lies.is.rising (rw length-map c.terms-test.true))
    (c.requires.satisfied (term_at all c.terms.place).vertex))

pub terms-preserved : goal.terms-preserved
terms-preserved g c =
    let tests = g.S.States.tests in
    let ts = c.args.terms.now in
    let all = terms_view tests ts in
    let trail = trail_view tests c.args.self.now in
    let place = c.terms.place in
    let t = c.index-terms-place.result in
    let lt : place < length all = rw length-map c.terms-test.true in
    let here : term_at all place ≡ term_view tests t =
    view_at (term_view tests) ts place t _ c.terms-test.true c.index-terms-place.is in
    let count : IsCount trail (term_at all place).vertex (term_at all place).states c.places_of-places.result =
    subst (λ (x : TermView). IsCount trail x.vertex x.states c.places_of-places.result)
    (sym here) c.places_of-places.ensures in
    let some = count_some trail (term_at all place).vertex
    (term_at all place).states c.places_of-places.result c.requires.sound
    (term_fits trail all place c.requires.lies lt) (full_at all place c.requires.lies.is.none_full lt) count in
    let next : suc place ≡ place + 1 = omega arith in
    subst (λ n. Ranked trail all n c.with-ranks.result) next
    (subst (Ranked trail all (suc place)) (sym c.with-ranks.ensures)
    (rank_more trail all place c.terms.ranks c.places_of-places.result c.requires.lies.is.rising lt
    c.terms.invariant count some))
