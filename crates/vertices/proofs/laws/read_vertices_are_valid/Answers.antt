use Rattle.vertices.proofs.OnlyValid.{vertex-fits}
use Rattle.vertices.proofs.laws.read_vertices_are_valid.Goals as goal

pub returns : goal.returns
returns c = vertex-fits
