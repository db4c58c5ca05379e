use Rattle.std.proofs.Common.{◌≡◌, ◌<◌, length, sym, ap, ◌∙◌, subst}
use Rattle.std.proofs.lemmas.List.{length-map}
use Rattle.terms.specs.Terms.{TermView, relation_of, term_view, terms_view}
use Rattle.propagation.specs.Trails.{set_of, space_of, trail_view}
use Rattle.propagation.specs.inner.Units.{term_at}
use Rattle.propagation.proofs.Vertices.{term_fits, term_within, view_at}
use Rattle.propagation.proofs.trail.Trail.relation_at.Goals as goal

pub relation-requires-clause-vertex : goal.relation-requires-clause-vertex
relation-requires-clause-vertex g c =
    let tests = g.S.States.tests in
    let ts = c.args.terms.now in
    let t = trail_view tests c.args.self.now in
    let here : term_at (terms_view tests ts) c.args.place ≡ term_view tests c.index-terms-place.result = view_at
    (term_view tests) ts c.args.place c.index-terms-place.result _ c.requires.within c.index-terms-place.is in
    subst (λ (x : TermView). x.vertex < length t.sets) here
    (term_within t (terms_view tests ts) c.args.place c.requires.lies (rw length-map c.requires.within))

pub relation-requires-clause-fits : goal.relation-requires-clause-fits
relation-requires-clause-fits g c =
    let tests = g.S.States.tests in
    let ts = c.args.terms.now in
    let t = trail_view tests c.args.self.now in
    let here : term_at (terms_view tests ts) c.args.place ≡ term_view tests c.index-terms-place.result = view_at
    (term_view tests) ts c.args.place c.index-terms-place.result _ c.requires.within c.index-terms-place.is in
    subst (λ (x : TermView). length x.states ≡ space_of t x.vertex) here
    (term_fits t (terms_view tests ts) c.args.place c.requires.lies (rw length-map c.requires.within))

pub returns : goal.returns
returns g c =
    let tests = g.S.States.tests in
    let ts = c.args.terms.now in
    let sets = (trail_view tests c.args.self.now).sets in
    let here : term_at (terms_view tests ts) c.args.place ≡ term_view tests c.index-terms-place.result = view_at
    (term_view tests) ts c.args.place c.index-terms-place.result _ c.requires.within c.index-terms-place.is in
    c.relation.ensures ∙ sym (ap (λ (x : TermView). relation_of (set_of sets x.vertex) x.states) here)
