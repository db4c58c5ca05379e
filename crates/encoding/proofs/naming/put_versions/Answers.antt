use Rattle.std.proofs.Common.{◌≡◌, ◌∙◌, ◌+◌, ◌++◌, ◌∷◌, List, drop, ap, sym, map}
use Rattle.std.specs.List.{flat_map}
use Rattle.std.proofs.lemmas.List.{append_assoc, drop_more}
use Rattle.model.specs.Vertices.{Vertex}
use Rattle.semver.specs.Identifiers.{parts_of}
use Rattle.semver.specs.Parse.{Parts}
use Rattle.numbering.specs.inner.KnownProblem.{problem}
use Rattle.encoding.specs.inner.Everything.{of_version}
use Rattle.encoding.specs.Views.{vertex_views}
use Rattle.encoding.proofs.naming.put_versions.Goals as goal

pub versions-preserved : goal.versions-preserved
versions-preserved c =
    let f : Parts → List Vertex = of_version (problem c.args.known.now) c.args.name.now in
    let xs = c.args.versions.now in
    let i = c.versions.version-index in
    let e = c.version-item.result in
    let left = drop (i + 1) xs in
    let here : drop i xs ≡ e ∷ left =
    drop_more xs i e c.versions-test.true ∙ ap (λ y. y ∷ left) (sym c.version-item.is) in
    let all = vertex_views c.versions.vertices.items in
    ap (λ l. l ++ flat_map f (map parts_of left)) c.in_ok-put_version.ensures
    ∙ append_assoc all (f (parts_of e)) (flat_map f (map parts_of left))
    ∙ ap (λ l. all ++ flat_map f (map parts_of l)) (sym here)
    ∙ c.versions.invariant
