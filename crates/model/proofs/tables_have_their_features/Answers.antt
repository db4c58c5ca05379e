use Rattle.model.proofs.Tables.{built-entries}
use Rattle.model.proofs.tables_have_their_features.Goals as goal

pub returns : goal.returns
returns c = built-entries
