use Rattle.vertices.proofs.ReadBack.{vertex-is-read, same-texts}
use Rattle.vertices.proofs.laws.texts_tell_vertices_apart.Goals as goal

pub returns : goal.returns
returns c v w h k e = same-texts v w (vertex-is-read v h) (vertex-is-read w k) e
