use Rattle.std.proofs.Common.{ap, ap₂, ◌∙◌}
use Rattle.std.specs.Prelude.{position}
use Rattle.model.specs.Vertices.{same_vertex}
use Rattle.numbering.specs.Numberings.{number_in}
use Rattle.encoding.specs.Encodings.{EncodingView}
use Rattle.encoding.specs.Views.{vertex_view}
use Rattle.encoding.specs.declared.rows.Row.{Row}
use Rattle.encoding.proofs.Numbered.{number_is}
use Rattle.encoding.proofs.whole.Encoding.number.Goals as goal

pub returns : goal.returns
returns c =
    let v = vertex_view c.args.vertex.now in
    c.place_of.ensures
    ∙ ap₂ (λ w rows. position (λ (r : Row). same_vertex w (vertex_view r.vertex)) rows) c.borrowed-wanted.ensures
    c.as_slice.ensures.value
    ∙ number_is (λ (r : Row). vertex_view r.vertex) v c.self.inside.rows.items
    ∙ ap (λ (e : EncodingView). number_in e.vertices v) c.self.view_is
