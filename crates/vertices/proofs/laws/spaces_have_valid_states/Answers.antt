use Rattle.vertices.proofs.InSpace.{in-space}
use Rattle.vertices.proofs.laws.spaces_have_valid_states.Goals as goal

pub returns : goal.returns
returns c q v s valid i = in-space q valid v s i
