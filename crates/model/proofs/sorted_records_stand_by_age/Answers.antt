use Rattle.model.proofs.Candidates.{sorted_is_oldest_first}
use Rattle.model.proofs.sorted_records_stand_by_age.Goals as goal

pub returns : goal.returns
returns c = sorted_is_oldest_first
