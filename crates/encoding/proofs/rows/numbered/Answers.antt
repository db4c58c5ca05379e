use Rattle.std.proofs.Common.{◌≡◌, ◌∙◌, ◌+◌, ◌∷◌, drop, ap, sym}
use Rattle.std.proofs.lemmas.List.{drop_more}
use Rattle.encoding.specs.Encodings.{numbered}
use Rattle.encoding.specs.Views.{vertex_views}
use Rattle.encoding.proofs.rows.numbered.Goals as goal

pub vertices-preserved : goal.vertices-preserved
vertices-preserved c =
    let xs = c.args.vertices.now in
    let i = c.vertices.vertex-index in
    let e = c.vertex-item.result in
    let left = drop (i + 1) xs in
    let here : drop i xs ≡ e ∷ left =
    drop_more xs i e c.vertices-test.true ∙ ap (λ y. y ∷ left) (sym c.vertex-item.is) in
    ap (λ t. numbered t (vertex_views left)) c.in_ok-put.ensures.ok
    ∙ ap (λ l. numbered c.vertices.table (vertex_views l)) (sym here)
    ∙ c.vertices.invariant
