use Rattle.model.proofs.Tables.{built-in_order}
use Rattle.model.proofs.tables_stay_in_order.Goals as goal

pub returns : goal.returns
returns c = built-in_order
