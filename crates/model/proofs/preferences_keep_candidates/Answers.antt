use Rattle.model.proofs.Candidates.{preference-permutes}
use Rattle.model.proofs.preferences_keep_candidates.Goals as goal

pub returns : goal.returns
returns c = preference-permutes
