use Rattle.std.proofs.Common.{rules, ◌≡◌, ◌+◌, ◌++◌, ◌∷◌, [], true, length, reverse, ap, ◌∙◌, arith}
use Rattle.std.proofs.lemmas.List.{length-append, length-reverse}
use Rattle.changes.specs.inner.Ways.{is_way, leads}
use Rattle.changes.proofs.Leading.{back, before_nearer, before_within, way_back}
use Rattle.changes.proofs.searching.way_to.Goals as goal

pub visits-init : goal.visits-init
unfolding leads
visits-init c =
    let none : c.new-places.result.items ≡ [] = search rules in
    record {
      behind = c.requires.end;
      count = rw none (omega arith);
      way = λ content begins ends led here ended.
          (here, ap (λ ps. leads content ends c.args.end.place (reverse ps)) none ∙ ended);
    }

pub visit_at-visit-requires : goal.visit_at-visit-requires
visit_at-visit-requires c = before_within c.args.visits.now c.visits.visit.before c.visits.visit.depth
    (omega (arith, c.visits-test.true)) c.visits.invariant.behind

pub visits-smaller : goal.visits-smaller
visits-smaller c =
    let nearer = before_nearer c.args.visits.now c.visits.visit.before c.visits.visit.depth
    (omega (arith, c.visits-test.true)) c.visits.invariant.behind c.visit_at-visit.result c.visit_at-visit.ensures in
    omega (arith, nearer)

pub visits-preserved : goal.visits-preserved
visits-preserved c =
    let visits = c.args.visits.now in
    let u = c.visits.visit in
    let v = c.visit_at-visit.result in
    let so_far = c.visits.places.items in
    let deep = c.visits-test.true in
    let nearer = before_nearer visits u.before u.depth (omega (arith, deep)) c.visits.invariant.behind v
    c.visit_at-visit.ensures in
    let was = c.visits.invariant.count in
    let longer = length-append so_far (u.place ∷ []) in
    let pushed : c.push.new.self.items ≡ so_far ++ u.place ∷ [] = search rules in
    record {
      behind = c.requires.behind u.before v c.visit_at-visit.ensures;
      count = rw pushed (omega (arith, nearer, was, longer));
      way = λ content begins ends led here ended.
          let w = c.visits.invariant.way content begins ends led here ended in
          rw pushed
          (back content begins ends visits u v so_far led (omega (arith, deep)) w.0 c.visit_at-visit.ensures w.1);
    }

pub returns-clause-way : goal.returns-clause-way
returns-clause-way c =
    λ content begins ends led here ended.
    let u = c.visits.visit in
    let w = c.visits.invariant.way content begins ends led here ended in
    let pushed : c.push-2.new.self.items ≡ c.visits.places.items ++ u.place ∷ [] = search rules in
    ap (is_way content begins ends) (c.reverse.ensures.items ∙ ap reverse pushed)
    ∙ way_back content begins ends c.args.visits.now u c.visits.places.items
    (omega (arith, c.visits-test.false)) w.0 w.1
