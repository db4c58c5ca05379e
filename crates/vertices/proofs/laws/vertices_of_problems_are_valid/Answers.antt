use Rattle.vertices.proofs.InProblem.{in-problem}
use Rattle.vertices.proofs.laws.vertices_of_problems_are_valid.Goals as goal

pub returns : goal.returns
returns c q v valid h = in-problem q valid v h
