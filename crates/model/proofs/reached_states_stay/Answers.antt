use Rattle.model.proofs.CutDown.{same_states}
use Rattle.model.proofs.reached_states_stay.Goals as goal

pub returns : goal.returns
returns c = λ q state content v s known ok stands. same_states q state ok known content stands v s
