use Rattle.model.proofs.Verdicts.{one_verdict}
use Rattle.model.proofs.verdicts_are_unique.Goals as goal

pub returns : goal.returns
returns c = one_verdict
