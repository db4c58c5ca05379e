use Rattle.model.proofs.Verdicts.{valid_iff}
use Rattle.model.proofs.valid_verdicts_select.Goals as goal

pub returns : goal.returns
returns c = valid_iff
