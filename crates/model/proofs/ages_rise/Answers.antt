use Rattle.model.proofs.Candidates.{oldest_first-rises}
use Rattle.model.proofs.ages_rise.Goals as goal

pub returns : goal.returns
returns c = oldest_first-rises
