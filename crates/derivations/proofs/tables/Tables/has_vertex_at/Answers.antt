use Rattle.std.proofs.Common.{◌≡◌, Some, slice_get, ap, sym, ◌∙◌}
use Rattle.model.proofs.Same.{vertex-same}
use Rattle.vertices.specs.Views.{vertex_view}
use Rattle.derivations.proofs.TableLaws.{lent}
use Rattle.derivations.proofs.tables.Tables.has_vertex_at.Goals as goal

pub returns-in-Some : goal.returns-in-Some
returns-in-Some c equal =
    let there : slice_get c.self.inside.vertices.keys c.args.number ≡ Some c.in-Some.there.now =
    sym (ap (λ xs. slice_get xs c.args.number) c.as_slice.ensures.keys)
    ∙ lent c.as_slice.result.now c.args.number c.get.result c.in-Some.there c.get.ensures.lookup c.in-Some.is in
    let same : c.in-Some.there.now ≡ vertex_view c.args.vertex.now = sym c.vertex.ensures
    ∙ vertex-same (vertex_view c.vertex.result.now) (vertex_view c.args.vertex.now) (sym c.eq.ensures ∙ equal) in
    ap (λ t. slice_get t.vertices c.args.number) (sym c.self.view_is) ∙ there ∙ ap Some same
