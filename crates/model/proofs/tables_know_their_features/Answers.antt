use Rattle.model.proofs.Tables.{built-knows}
use Rattle.model.proofs.tables_know_their_features.Goals as goal

pub returns : goal.returns
returns c = built-knows
