use Rattle.vertices.proofs.ReadBack.{vertex-is-read}
use Rattle.vertices.proofs.laws.valid_vertices_are_read.Goals as goal

pub returns : goal.returns
returns c = vertex-is-read
