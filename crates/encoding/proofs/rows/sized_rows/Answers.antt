use Rattle.std.proofs.Common.{◌≡◌, ◌<◌, ◌≤◌, ◌+◌, ◌++◌, ◌∷◌, [], suc, length, map, take, take_all, sym, ap, ◌∙◌, subst}
use Rattle.std.proofs.Common.{arith}
use Rattle.std.proofs.lemmas.List.{map-append}
use Rattle.model.proofs.Places.{some_at}
use Rattle.numbering.specs.inner.KnownProblem.{problem}
use Rattle.encoding.specs.inner.Rows.{row_view, sized}
use Rattle.encoding.proofs.Pairing.{take_none, taken_next}
use Rattle.encoding.proofs.rows.sized_rows.Goals as goal

pub vertices-init : goal.vertices-init
vertices-init c =
    ap (map row_view) c.new-rows.ensures.items
    ∙ ap (map (sized (problem c.args.known.now))) (sym (take_none c.args.table.now))

pub vertices-preserved : goal.vertices-preserved
vertices-preserved c =
    let vs = c.args.table.now in
    let n = c.vertices.number in
    let f = sized (problem c.args.known.now) in
    let lt : n < length vs = subst (λ k. n < k) c.len-number-end.ensures c.vertices-test.true in
    let r = some_at vs n lt in
    let e : suc n ≡ n + 1 = omega arith in
    c.in_ok-put_row.ensures r.0 r.1
    ∙ ap (λ l. l ++ f r.0 ∷ []) c.vertices.invariant
    ∙ sym (map-append f (take n vs) (r.0 ∷ []))
    ∙ ap (map f) (sym (taken_next vs n r.0 r.1))
    ∙ ap (λ k. map f (take k vs)) e

pub returns : goal.returns
returns c =
    let vs = c.args.table.now in
    let all : length vs ≤ c.vertices.number =
    subst (λ k. k ≤ c.vertices.number) c.len-number-end.ensures (omega (arith, c.vertices-test.false)) in
    c.vertices.invariant ∙ ap (map (sized (problem c.args.known.now))) (take_all c.vertices.number vs all)
