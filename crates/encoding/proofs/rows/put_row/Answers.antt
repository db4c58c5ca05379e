use Rattle.std.proofs.Common.{◌≡◌, ◌++◌, ◌∷◌, [], map, Some, slice_get, sym, ap, ◌∙◌, subst}
use Rattle.std.specs.Prelude.{option_map}
use Rattle.std.proofs.lemmas.Option.{none-some, same_Some}
use Rattle.std.proofs.lemmas.Result.{on_ok_weaker}
use Rattle.model.specs.Vertices.{Vertex}
use Rattle.numbering.specs.inner.KnownProblem.{problem}
use Rattle.vertices.specs.inner.RefViews.{vertex_ref_view}
use Rattle.encoding.specs.inner.Rows.{row_view, sized}
use Rattle.encoding.proofs.rows.put_row.Goals as goal

pub returns-in-Some : goal.returns-in-Some
returns-in-Some c =
    let w = vertex_ref_view c.in-Some.vertex in
    let seen : slice_get c.args.table.now c.args.number ≡ Some w =
    sym c.vertex.ensures ∙ ap (option_map vertex_ref_view) c.in-Some.is in
    on_ok_weaker c.push_row.result
    (λ e v at. subst (λ (u : Vertex). map row_view c.push_row.new.rows.items
    ≡ map row_view c.args.rows.now.items ++ sized (problem c.args.known.now) u ∷ [])
    (same_Some w v (sym seen ∙ at)) e)
    c.push_row.ensures

pub returns-in-None : goal.returns-in-None
returns-in-None c =
    λ v at. absurd (none-some v (sym (sym c.vertex.ensures ∙ ap (option_map vertex_ref_view) c.in-None.is) ∙ at))
