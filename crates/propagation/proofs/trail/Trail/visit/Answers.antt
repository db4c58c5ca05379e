use Rattle.std.proofs.Common.{◌≡◌, ◌<◌, Some, length, refl, sym, subst}
use Rattle.std.proofs.lemmas.List.{length-map}
use Rattle.version_sets.specs.Sets.{meet, rest}
use Rattle.terms.specs.Terms.{TermView, term_view, terms_view}
use Rattle.propagation.specs.Trails.{set_of, space_of, trail_view}
use Rattle.propagation.specs.inner.Parts.{IsPut}
use Rattle.propagation.specs.inner.Units.{AllHold, Neither, OneIsOpen, relation_at, term_at}
use Rattle.propagation.proofs.Vertices.{open_one, quiet_from, sat_from, term_fits, term_within, view_at}
use Rattle.propagation.proofs.trail.Trail.visit.Goals as goal

pub force-requires-clause-fits : goal.force-requires-clause-fits
force-requires-clause-fits g c =
    let tests = g.S.States.tests in
    let ts = c.args.terms.now in
    let t = c.index-terms-open.result in
    let lt : c.in-OneOpen.open < length ts = c.in-OneOpen.ensures.within in
    let here : term_at (terms_view tests ts) c.in-OneOpen.open ≡ term_view tests t =
    view_at (term_view tests) ts c.in-OneOpen.open t _ lt c.index-terms-open.is in
    subst (λ (x : TermView). length x.states ≡ space_of (trail_view tests c.args.self.now) x.vertex) here
    (term_fits (trail_view tests c.args.self.now)
    (terms_view tests ts) c.in-OneOpen.open c.requires.lies (rw length-map lt))

pub force-requires-clause-vertex : goal.force-requires-clause-vertex
force-requires-clause-vertex g c =
    let tests = g.S.States.tests in
    let ts = c.args.terms.now in
    let t = c.index-terms-open.result in
    let lt : c.in-OneOpen.open < length ts = c.in-OneOpen.ensures.within in
    let here : term_at (terms_view tests ts) c.in-OneOpen.open ≡ term_view tests t =
    view_at (term_view tests) ts c.in-OneOpen.open t _ lt c.index-terms-open.is in
    subst (λ (x : TermView). x.vertex < length (trail_view tests c.args.self.now).sets) here
    (term_within (trail_view tests c.args.self.now)
    (terms_view tests ts) c.in-OneOpen.open c.requires.lies (rw length-map lt))

pub returns-in-Holds-clause-visited : goal.returns-in-Holds-clause-visited
returns-in-Holds-clause-visited g c =
    let tests = g.S.States.tests in
    let sets = (trail_view tests c.args.self.now).sets in
    let ts = terms_view tests c.args.terms.now in
    let all : AllHold (length ts) (relation_at sets ts) = rw length-map c.in-Holds.ensures in
    (refl, sat_from sets ts all)

pub returns-in-Quiet-clause-visited : goal.returns-in-Quiet-clause-visited
returns-in-Quiet-clause-visited g c =
    let tests = g.S.States.tests in
    let sets = (trail_view tests c.args.self.now).sets in
    let ts = terms_view tests c.args.terms.now in
    let none : Neither (length ts) (relation_at sets ts) = rw length-map c.in-Quiet.ensures in
    (refl, quiet_from sets ts c.requires.lies.is.rising none)

pub returns-in_ok-force-in-OneOpen-clause-visited : goal.returns-in_ok-force-in-OneOpen-clause-visited
returns-in_ok-force-in-OneOpen-clause-visited g c =
    let tests = g.S.States.tests in
    let old = trail_view tests c.args.self.now in
    let new = trail_view tests c.force.new.self in
    let ts = terms_view tests c.args.terms.now in
    let t = c.index-terms-open.result in
    let one : OneIsOpen (length ts) (relation_at old.sets ts) c.in-OneOpen.open = rw length-map c.in-OneOpen.ensures in
    let here : term_at ts c.in-OneOpen.open ≡ term_view tests t = view_at
    (term_view tests) c.args.terms.now c.in-OneOpen.open t _ c.in-OneOpen.ensures.within c.index-terms-open.is in
    let put = subst (λ (x : TermView). IsPut old new x.vertex (meet (set_of old.sets x.vertex) (rest x.states))
    (Some c.args.id) old.level) (sym here) c.in_ok-force-in-OneOpen.ensures.put in
    record {
      vertex = (term_at ts c.in-OneOpen.open).vertex;
      states = (term_at ts c.in-OneOpen.open).states;
      one =
          open_one old.sets ts c.in-OneOpen.open c.requires.lies.is.rising one;
      put = put;
    }
