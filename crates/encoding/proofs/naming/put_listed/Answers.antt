use Rattle.std.proofs.Common.{◌≡◌, ◌∙◌, ◌+◌, ◌++◌, ◌∷◌, List, drop, ap, sym}
use Rattle.std.specs.List.{flat_map}
use Rattle.std.proofs.lemmas.List.{append_assoc, drop_more}
use Rattle.model.specs.Vertices.{Vertex}
use Rattle.std.specs.Prelude.{ℕ}
use Rattle.numbering.specs.inner.KnownProblem.{problem}
use Rattle.encoding.specs.inner.Everything.{feature_of}
use Rattle.encoding.specs.Views.{vertex_views}
use Rattle.encoding.proofs.naming.put_listed.Goals as goal

pub features-preserved : goal.features-preserved
features-preserved c =
    let f : List ℕ → List Vertex = feature_of (problem c.args.known.now) c.args.name.now in
    let xs = c.args.features.now in
    let i = c.features.feature-index in
    let e = c.feature-item.result in
    let left = drop (i + 1) xs in
    let here : drop i xs ≡ e ∷ left =
    drop_more xs i e c.features-test.true ∙ ap (λ y. y ∷ left) (sym c.feature-item.is) in
    let all = vertex_views c.features.vertices.items in
    ap (λ l. l ++ flat_map f left) c.in_ok-put_in_each.ensures
    ∙ append_assoc all (f e) (flat_map f left)
    ∙ ap (λ l. all ++ flat_map f l) (sym here)
    ∙ c.features.invariant
