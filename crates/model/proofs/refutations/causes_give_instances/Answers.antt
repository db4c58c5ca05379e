use Rattle.model.proofs.CauseLaws.{cause_instance}
use Rattle.model.proofs.refutations.causes_give_instances.Goals as goal

pub returns : goal.returns
returns c = λ q k t. cause_instance q k t
