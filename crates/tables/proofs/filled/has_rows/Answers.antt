use Rattle.std.proofs.Common.{arith}
use Rattle.std.proofs.lemmas.Bool.Decides.{nat_tests}
use Rattle.std.proofs.lemmas.Grind.{common_steps}
use Rattle.tables.proofs.Rows.{has_rows-view}
use Rattle.tables.proofs.filled.has_rows.Goals as goal

pub returns : goal.returns
returns c = grind (arith, nat_tests, common_steps, has_rows-view c.args.table.now.entries)
