use Rattle.model.proofs.Candidates.{oldest_first-permutes}
use Rattle.model.proofs.ages_keep_records.Goals as goal

pub returns : goal.returns
returns c = oldest_first-permutes
