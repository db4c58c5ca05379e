use Rattle.numbering.proofs.Sound.{has_assignment}
use Rattle.numbering.proofs.selections_have_assignments.Goals as goal

pub returns : goal.returns
returns c = λ q vs content valid none. has_assignment q vs content valid none
