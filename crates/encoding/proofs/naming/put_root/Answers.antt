use Rattle.std.proofs.Common.{◌∙◌, ◌++◌, ◌∷◌, [], List, ap}
use Rattle.std.specs.List.{flat_map}
use Rattle.std.proofs.lemmas.List.{map-append}
use Rattle.std.proofs.lemmas.Result.{on_ok_weaker}
use Rattle.features.specs.Views.{dependency_views}
use Rattle.model.specs.Summary.{Dependency, Table}
use Rattle.model.specs.Vertices.{Vertex, root, the_root}
use Rattle.numbering.specs.inner.KnownProblem.{problem}
use Rattle.vertices.specs.inner.RefViews.{vertex_ref_view}
use Rattle.encoding.specs.inner.Everything.{asked_for, of_dependency}
use Rattle.numbering.specs.inner.CausesAt.{each_from}
use Rattle.encoding.specs.Views.{vertex_views}
use Rattle.encoding.proofs.Steps.{rows_ask, three}
use Rattle.encoding.proofs.naming.put_root.Goals as goal

pub returns : goal.returns
returns c =
    let q = problem c.args.known.now in
    let vs = vertex_views c.args.vertices.now.items in
    let ds = dependency_views c.dependencies-dependencies.result.now in
    let owned : List Dependency → List Vertex = λ l. each_from (of_dependency q the_root) 0 l in
    let asked : List Dependency → Table → List Vertex =
    λ l t. flat_map (λ row. flat_map (asked_for q l) row.1) t in
    on_ok_weaker c.put_rows.result
    (λ e. e
    ∙ ap (λ l. l ++ asked ds c.features.result.now) (c.in_ok-put_dependencies.ensures ∙ ap (λ l. l ++ owned ds)
    (ap vertex_views c.in_ok-push.ensures.items ∙ map-append vertex_ref_view c.args.vertices.now.items _))
    ∙ three vs (root ∷ []) (owned ds) (asked ds c.features.result.now)
    ∙ ap (λ l. vs ++ (root ∷ (owned l ++ asked l c.features.result.now))) c.dependencies-dependencies.ensures
    ∙ ap (λ t. vs ++ (root ∷ (owned q.brings.dependencies ++ asked q.brings.dependencies t))) c.features.ensures
    ∙ ap (λ l. vs ++ (root ∷ (owned q.brings.dependencies ++ l)))
    (rows_ask q q.brings.dependencies q.brings.features))
    c.put_rows.ensures
