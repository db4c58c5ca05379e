use Rattle.model.proofs.Vertices.{instance_vertices}
use Rattle.model.proofs.instances_have_vertices.Goals as goal

pub returns : goal.returns
returns c = λ q k ts known instance. instance_vertices q known k ts instance
