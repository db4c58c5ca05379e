use Rattle.model.proofs.One.{one_state}
use Rattle.model.proofs.vertices_have_one_state.Goals as goal

pub returns : goal.returns
returns c = λ q content v s r valid a b. one_state q content valid v s r a b
