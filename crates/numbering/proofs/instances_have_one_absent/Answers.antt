use Rattle.numbering.proofs.Absent.{instance_one_zero}
use Rattle.numbering.proofs.instances_have_one_absent.Goals as goal

pub returns : goal.returns
returns c = λ q vs k ts made numbering instance says. instance_one_zero q vs k ts made numbering.once instance says
