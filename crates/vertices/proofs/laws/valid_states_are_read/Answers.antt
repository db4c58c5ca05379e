use Rattle.vertices.proofs.ReadBack.{state-is-read}
use Rattle.vertices.proofs.laws.valid_states_are_read.Goals as goal

pub returns : goal.returns
returns c = state-is-read
