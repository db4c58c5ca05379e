use Rattle.lockfile.proofs.Back.{table-back}
use Rattle.lockfile.proofs.laws.tables_say_their_contents.Goals as goal

pub returns : goal.returns
returns c = table-back
