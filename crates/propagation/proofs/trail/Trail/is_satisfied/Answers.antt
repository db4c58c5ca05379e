use Rattle.std.proofs.Common.{rules, ◌≡◌, List, length, ap, sym, ◌∙◌, subst, arith, inl, inr}
use Rattle.std.proofs.lemmas.Bool.{cases_lt}
use Rattle.std.proofs.lemmas.List.{length-map}
use Rattle.terms.specs.Terms.{TermView, terms_view}
use Rattle.terms.specs.declared.term.Relation.TheVariants.{Satisfied}
use Rattle.incompatibilities.specs.Incompatibilities.{states_at}
use Rattle.propagation.specs.Satisfaction.{Sat}
use Rattle.propagation.specs.Trails.{trail_view}
use Rattle.propagation.specs.inner.Units.{AllHold, LiesOn, relation_at}
use Rattle.propagation.proofs.Vertices.{sat_from, sat_to}
use Rattle.propagation.proofs.trail.Trail.is_satisfied.Goals as goal

pub relation_at-requires-clause-lies : goal.relation_at-requires-clause-lies
relation_at-requires-clause-lies g c =
    let tests = g.S.States.tests in
    subst (λ (us : List TermView). LiesOn (trail_view tests c.args.self.now) us)
    (sym (ap (terms_view tests) c.terms-terms.ensures.terms))
    (record { is = c.terms-terms.ensures.is; lies = c.requires })

pub terms-preserved : goal.terms-preserved
terms-preserved g c i lt = elim (cases_lt i c.terms.place) [
  | inl less ↦ c.terms.invariant i less
  | inr le ↦
      let f = relation_at (trail_view g.S.States.tests c.args.self.now).sets
      (terms_view g.S.States.tests c.terms-terms.result.now) in
      let same : c.terms.place ≡ i = omega (arith, lt, le) in
      subst (λ k. f k ≡ Satisfied) same (sym c.relation_at.ensures ∙ c.in-Satisfied.is)
]

pub returns-in-Contradicted-clause-no : goal.returns-in-Contradicted-clause-no
returns-in-Contradicted-clause-no g c sat =
    let tests = g.S.States.tests in
    let sets = (trail_view tests c.args.self.now).sets in
    let us = terms_view tests c.args.incompatibility.now in
    let all : AllHold (length us) (relation_at sets us) = sat_to sets us c.terms-terms.ensures.is.rising sat in
    let now : AllHold (length c.terms-terms.result.now) (relation_at sets (terms_view tests c.terms-terms.result.now)) =
    rw length-map at (subst (λ (ts : List TermView). AllHold (length ts) (relation_at sets ts))
    (sym (ap (terms_view tests) c.terms-terms.ensures.terms)) all) in
    let is : c.relation_at.result ≡ Satisfied = c.relation_at.ensures ∙ now c.terms.place c.terms-test.true in
    search (rules, is, c.in-Contradicted.is)

pub returns-clause-yes : goal.returns-clause-yes
returns-clause-yes g c =
    let tests = g.S.States.tests in
    let sets = (trail_view tests c.args.self.now).sets in
    let ts = terms_view tests c.terms-terms.result.now in
    let all : AllHold (length ts) (relation_at sets ts) = λ i lt. c.terms.invariant i
    (let le = c.terms-test.false in let less = rw length-map at lt in omega (arith, le, less)) in
    subst (λ (us : List TermView). Sat sets (states_at us)) (ap (terms_view tests) c.terms-terms.ensures.terms)
    (sat_from sets ts all)
