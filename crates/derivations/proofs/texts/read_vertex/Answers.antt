use Rattle.std.proofs.Common.{sym}
use Rattle.vertices.specs.Views.{vertex_view}
use Rattle.vertices.proofs.TextLaws.{vertex-reads}
use Rattle.derivations.proofs.texts.read_vertex.Goals as goal

pub new-requires : goal.new-requires
new-requires c = sym (vertex-reads c.args.text.now (vertex_view c.in-Ok.vertex) c.in-Ok.ensures)
