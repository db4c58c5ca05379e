use Rattle.std.proofs.Common.{◌≡◌, ◌<◌, ◌-◌, suc, length, sym, ◌∙◌, subst, arith}
use Rattle.terms.specs.Terms.{terms_view}
use Rattle.propagation.specs.Trails.{trail_view}
use Rattle.propagation.specs.inner.Units.{after, relation_at}
use Rattle.propagation.specs.declared.propagating.Standing.TheVariants.{Quiet}
use Rattle.propagation.proofs.Standings.{StandsFrom, after_next, stands_all}
use Rattle.propagation.proofs.trail.Trail.standing.Goals as goal

pub terms-preserved : goal.terms-preserved
terms-preserved g c =
    let n = length c.args.terms.now in
    let k = c.terms.place - 1 in
    let lt : k < n = omega arith in
    let f = relation_at (trail_view g.S.States.tests c.args.self.now).sets
    (terms_view g.S.States.tests c.args.terms.now) in
    let more : c.terms.place ≡ suc k = omega arith in
    subst (StandsFrom k n f) (sym c.with_next-seen.ensures)
    (after_next f k n c.terms.seen c.relation_at-relation.result lt (sym c.relation_at-relation.ensures)
    (subst (λ m. StandsFrom m n f c.terms.seen) more c.terms.invariant))

pub returns-in-Quiet : goal.returns-in-Quiet
returns-in-Quiet g c =
    let n = length c.args.terms.now in
    let k = c.terms.place - 1 in
    let lt : k < n = omega arith in
    let f = relation_at (trail_view g.S.States.tests c.args.self.now).sets
    (terms_view g.S.States.tests c.args.terms.now) in
    let more : c.terms.place ≡ suc k = omega arith in
    let is : after c.terms.seen k c.relation_at-relation.result ≡ Quiet =
    sym c.with_next-seen.ensures ∙ c.in-Quiet.is in
    subst (StandsFrom k n f) is
    (after_next f k n c.terms.seen c.relation_at-relation.result lt (sym c.relation_at-relation.ensures)
    (subst (λ m. StandsFrom m n f c.terms.seen) more c.terms.invariant))

pub returns : goal.returns
returns g c =
    let n = length c.args.terms.now in
    let f = relation_at (trail_view g.S.States.tests c.args.self.now).sets
    (terms_view g.S.States.tests c.args.terms.now) in
    let none : c.terms.place ≡ 0 = omega arith in
    stands_all n f c.terms.seen (subst (λ m. StandsFrom m n f c.terms.seen) none c.terms.invariant)
