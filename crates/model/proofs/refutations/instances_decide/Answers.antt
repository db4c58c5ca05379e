use Rattle.model.proofs.Found.{instance-is}
use Rattle.model.proofs.refutations.instances_decide.Goals as goal

pub returns : goal.returns
returns c = λ q k ts apart. instance-is q k ts apart
