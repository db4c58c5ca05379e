use Rattle.model.proofs.Choices.{kept_owners}
use Rattle.model.proofs.reached_owners_are_kept.Goals as goal

pub returns : goal.returns
returns c = λ q state ok. kept_owners q state ok
