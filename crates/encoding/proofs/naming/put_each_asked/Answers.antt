use Rattle.std.proofs.Common.{◌≡◌, ◌∙◌, ◌+◌, ◌++◌, ◌∷◌, List, drop, ap, sym}
use Rattle.std.specs.List.{flat_map}
use Rattle.std.proofs.lemmas.List.{append_assoc, drop_more}
use Rattle.features.specs.Views.{dependency_view, dependency_views}
use Rattle.model.specs.Summary as model
use Rattle.model.specs.Vertices.{Vertex}
use Rattle.numbering.specs.inner.KnownProblem.{problem}
use Rattle.encoding.specs.inner.Everything.{asked_if}
use Rattle.encoding.specs.Views.{vertex_views}
use Rattle.encoding.proofs.naming.put_each_asked.Goals as goal

pub dependencies-preserved : goal.dependencies-preserved
dependencies-preserved c =
    let f : model.Dependency → List Vertex =
    asked_if (problem c.args.known.now) c.args.name.now c.args.asked.now in
    let xs = c.args.dependencies.now in
    let i = c.dependencies.dependency-index in
    let e = c.dependency-item.result in
    let left = drop (i + 1) xs in
    let here : drop i xs ≡ e ∷ left =
    drop_more xs i e c.dependencies-test.true ∙ ap (λ y. y ∷ left) (sym c.dependency-item.is) in
    let all = vertex_views c.dependencies.vertices.items in
    ap (λ l. l ++ flat_map f (dependency_views left))
    (c.in_ok-put_asked_if.ensures ∙ ap (λ d. all ++ f (dependency_view d)) c.deref.ensures)
    ∙ append_assoc all (f (dependency_view e)) (flat_map f (dependency_views left))
    ∙ ap (λ l. all ++ flat_map f (dependency_views l)) (sym here)
    ∙ c.dependencies.invariant
