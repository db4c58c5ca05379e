use Rattle.std.proofs.Common.{◌≡◌, ◌∙◌, ◌+◌, ◌++◌, ◌∷◌, List, drop, ap, sym}
use Rattle.std.specs.List.{flat_map}
use Rattle.std.proofs.lemmas.List.{append_assoc, drop_more}
use Rattle.model.specs.Vertices.{Vertex}
use Rattle.std.specs.Prelude.{ℕ}
use Rattle.numbering.specs.inner.KnownProblem.{problem}
use Rattle.encoding.specs.inner.Everything.{of_name, of_version}
use Rattle.encoding.proofs.Steps.{versions_are}
use Rattle.encoding.specs.Views.{vertex_views}
use Rattle.encoding.proofs.naming.put_names.Goals as goal

pub names-preserved : goal.names-preserved
names-preserved c =
    let f : List ℕ → List Vertex = of_name (problem c.args.known.now) in
    let xs = c.args.names.now in
    let i = c.names.name-index in
    let e = c.name-item.result in
    let left = drop (i + 1) xs in
    let here : drop i xs ≡ e ∷ left = drop_more xs i e c.names-test.true ∙ ap (λ y. y ∷ left) (sym c.name-item.is) in
    let all = vertex_views c.names.vertices.items in
    ap (λ l. l ++ flat_map f left) (c.in_ok-put_versions.ensures ∙ ap (λ vs. all
    ++ flat_map (of_version (problem c.args.known.now) e) vs) (versions_are c.args.known.now.problem.manifest.now
    c.args.known.now.problem.catalogue.now e c.versions.result.now c.versions.ensures.versions))
    ∙ append_assoc all (f e) (flat_map f left)
    ∙ ap (λ l. all ++ flat_map f l) (sym here)
    ∙ c.names.invariant
