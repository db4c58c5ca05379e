use Rattle.model.proofs.Sets.{combination-says}
use Rattle.model.proofs.refutations.combinations_say.Goals as goal

pub returns : goal.returns
returns c = λ q v w a b. combination-says q v a b w
