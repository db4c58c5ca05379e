use Rattle.std.proofs.Common.{sym}
use Rattle.vertices.specs.Views.{vertex_view}
use Rattle.vertices.proofs.TextLaws.{vertex-reads}
use Rattle.derivations.proofs.TableLaws.{grown-refl}
use Rattle.derivations.proofs.tables.Tables.add_spelling.Goals as goal

pub returns-then-has_vertex_at-clause-grown : goal.returns-then-has_vertex_at-clause-grown
returns-then-has_vertex_at-clause-grown c = grown-refl c.args.self.now

pub new-requires : goal.new-requires
new-requires c = sym (vertex-reads c.text-text.result.now (vertex_view c.in_ok-vertex.vertex) c.in_ok-vertex.ensures)
