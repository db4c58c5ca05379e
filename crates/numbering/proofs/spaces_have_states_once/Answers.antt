use Rattle.numbering.proofs.Distinct.{states_once}
use Rattle.numbering.proofs.spaces_have_states_once.Goals as goal

pub returns : goal.returns
returns c = λ q v known. states_once q known v
