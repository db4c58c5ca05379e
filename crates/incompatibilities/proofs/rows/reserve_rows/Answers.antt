use Rattle.std.proofs.Common.{◌≡◌, [], ap, drop, map, ◌+◌}
use Rattle.std.proofs.lemmas.List.{drop_all}
use Rattle.incompatibilities.proofs.RowLemmas.{grown_more, reserved_all, reserving_more, vertices_left}
use Rattle.incompatibilities.proofs.rows.reserve_rows.Goals as goal

pub returns-in_err-reserve_at-clause-grown : goal.returns-in_err-reserve_at-clause-grown
returns-in_err-reserve_at-clause-grown g c = grown_more c.args.rows.now.items c.terms.rows.items
    c.reserve_at.new.rows.items c.terms.invariant.grown c.reserve_at.ensures.grown

pub terms-preserved : goal.terms-preserved
terms-preserved g c =
    let i = c.terms.term-index in
    reserving_more c.args.rows.now.items c.terms.rows.items c.reserve_at.new.rows.items
    (map (λ t. t.vertex) c.args.terms.now) (map (λ t. t.vertex) (drop i c.args.terms.now))
    (map (λ t. t.vertex) (drop (i + 1) c.args.terms.now)) c.term-item.result.vertex
    (vertices_left c.args.terms.now i c.term-item.result c.terms-test.true c.term-item.is)
    c.in_ok-reserve_at.ensures.grown c.in_ok-reserve_at.ensures.room c.terms.invariant

pub returns-clause-room : goal.returns-clause-room
returns-clause-room g c =
    let none : map (λ t. t.vertex) (drop c.terms.term-index c.args.terms.now) ≡ [] =
    ap (map (λ t. t.vertex)) (drop_all c.terms.term-index c.args.terms.now c.terms-test.false) in
    reserved_all c.args.rows.now.items c.terms.rows.items (map (λ t. t.vertex) c.args.terms.now)
    (map (λ t. t.vertex) (drop c.terms.term-index c.args.terms.now)) none c.terms.invariant
