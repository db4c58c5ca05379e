use Rattle.std.proofs.Common.{◌≡◌, ◌∙◌, ◌+◌, ◌++◌, ◌∷◌, List, drop, ap, sym}
use Rattle.std.specs.List.{flat_map}
use Rattle.std.proofs.lemmas.List.{append_assoc, drop_more}
use Rattle.model.specs.Vertices.{Vertex}
use Rattle.features.specs.EntryViews.{entry_view, entry_views}
use Rattle.features.specs.Views.{dependency_views}
use Rattle.model.specs.Summary as model
use Rattle.numbering.specs.inner.KnownProblem.{problem}
use Rattle.encoding.specs.inner.Everything.{asked_for}
use Rattle.encoding.specs.Views.{vertex_views}
use Rattle.encoding.proofs.naming.put_row.Goals as goal

pub entries-preserved : goal.entries-preserved
entries-preserved c =
    let f : model.Entry → List Vertex =
    asked_for (problem c.args.known.now) (dependency_views c.args.dependencies.now) in
    let xs = c.args.entries.now in
    let i = c.entries.entry-index in
    let e = c.entry-item.result in
    let left = drop (i + 1) xs in
    let here : drop i xs ≡ e ∷ left = drop_more xs i e c.entries-test.true ∙ ap (λ y. y ∷ left) (sym c.entry-item.is) in
    let all = vertex_views c.entries.vertices.items in
    ap (λ l. l ++ flat_map f (entry_views left)) c.in_ok-put_asked.ensures
    ∙ append_assoc all (f (entry_view e)) (flat_map f (entry_views left))
    ∙ ap (λ l. all ++ flat_map f (entry_views l)) (sym here)
    ∙ c.entries.invariant
