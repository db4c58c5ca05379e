use Rattle.encoding.proofs.Pairing.{come_once}
use Rattle.encoding.proofs.instances_come_once.Goals as goal

pub returns : goal.returns
returns c = λ q x is. come_once q x is
