use Rattle.std.proofs.Common.{◌≡◌, ◌≤◌, ◌+◌, length, suc, sym, subst, take, take_all, arith}
use Rattle.numbering.specs.GivenViews.{given_views}
use Rattle.numbering.specs.Numberings.{Numbering}
use Rattle.encoding.specs.Everywhere.{IsGivenFor, all_pairs}
use Rattle.encoding.proofs.Pairing.{given_all, no_pairs}
use Rattle.encoding.proofs.whole.Encoding.axioms.Goals as goal

pub vertices-init : goal.vertices-init
vertices-init g c =
    let e = c.args.self.now in
    subst (λ xs. IsGivenFor e.problem e.vertices (all_pairs e.problem (take 0 e.vertices))
    (given_views g.S.States.tests xs)) (sym c.new-given.ensures.items) (no_pairs e.problem e.vertices e.vertices)

pub vertices-preserved : goal.vertices-preserved
vertices-preserved g c =
    let e = c.args.self.now in
    let k : suc c.vertices.vertex ≡ c.vertices.vertex + 1 = omega arith in
    subst (λ n. IsGivenFor e.problem e.vertices (all_pairs e.problem (take n e.vertices))
    (given_views g.S.States.tests c.put_axioms.new.given.items)) k c.in_ok-put_axioms.ensures.given

pub returns : goal.returns
returns g c =
    let e = c.args.self.now in
    let xs = given_views g.S.States.tests c.vertices.given.items in
    let all : length e.vertices ≤ c.vertices.vertex =
    subst (λ k. k ≤ c.vertices.vertex) c.len-vertex-end.ensures (omega (arith, c.vertices-test.false)) in
    given_all e.problem e.vertices xs (c.numbers_every_vertex.ensures).whole
    (subst (λ (vs : Numbering). IsGivenFor e.problem e.vertices (all_pairs e.problem vs) xs)
    (take_all c.vertices.vertex e.vertices all) c.vertices.invariant)
