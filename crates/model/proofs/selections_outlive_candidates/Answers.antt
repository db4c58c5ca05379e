use Rattle.model.proofs.Kept.{kept}
use Rattle.model.proofs.selections_outlive_candidates.Goals as goal

pub returns : goal.returns
returns c = kept
