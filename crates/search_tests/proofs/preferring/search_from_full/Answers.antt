use Rattle.std.proofs.Common.{ap, arith, refl, subst, sym, true}
use Rattle.incompatibilities.specs.Stores.{entries_view}
use Rattle.propagation.specs.Trails.{trail_view}
use Rattle.propagation.specs.Promises.{IsNew}
use Rattle.search_tests.specs.inner.Universes.{Prefers}
use Rattle.search_tests.proofs.Beginnings.{agrees_new, has_spaces, lie_in, selects}
use Rattle.search_tests.proofs.preferring.search_from_full.Goals as goal

pub returns-clause-preferred : goal.returns-clause-preferred
returns-clause-preferred g c x prefers within none =
    let t = trail_view g.S.States.tests c.in_ok-trail.trail in
    let old = c.args.guide.now in
    let new : IsNew old.spaces.items t = subst (λ xs. IsNew xs t) c.deref.ensures.value c.in_ok-trail.ensures.new in
    let same = c.in_ok-found.ensures.keeps in
    c.in_ok-found.ensures.selects x
    (subst (λ xs. Prefers xs c.search.new.guide.states.items x) (sym (ap (λ v. v.items) same.0))
    (subst (λ xs. Prefers old.spaces.items xs x) (sym (ap (λ v. v.items) same.1)) prefers))
    (none, agrees_new old.spaces.items t x new within)

pub returns-clause-selected : goal.returns-clause-selected
returns-clause-selected g c = let tests = g.S.States.tests in
    selects (λ v i. true) (entries_view tests c.search.new.store) (trail_view tests c.search.new.trail)
    c.in_ok-found.found.answer c.in_ok-found.ensures.trail c.in_ok-found.ensures.ended

pub search-requires-clause-seen : goal.search-requires-clause-seen
search-requires-clause-seen g c = record { within = omega arith; all = λ v i lt only. refl }

pub search-requires-clause-trail : goal.search-requires-clause-trail
search-requires-clause-trail g c =
    let es = entries_view g.S.States.tests c.args.store.now in
    let t = trail_view g.S.States.tests c.in_ok-trail.trail in
    let spaces = c.args.guide.now.spaces.items in
    let new : IsNew spaces t = subst (λ xs. IsNew xs t) c.deref.ensures.value c.in_ok-trail.ensures.new in
    c.in_ok-trail.ensures.trail es (lie_in spaces t es new c.requires.lies)

pub search-requires-clause-spaces : goal.search-requires-clause-spaces
search-requires-clause-spaces g c =
    let t = trail_view g.S.States.tests c.in_ok-trail.trail in
    let spaces = c.args.guide.now.spaces.items in
    has_spaces spaces t (subst (λ xs. IsNew xs t) c.deref.ensures.value c.in_ok-trail.ensures.new)
