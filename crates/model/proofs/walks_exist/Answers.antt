use Rattle.model.proofs.Choices.{walk_of}
use Rattle.model.proofs.walks_exist.Goals as goal

pub returns : goal.returns
returns c = λ q preferred known among. walk_of q preferred among known
