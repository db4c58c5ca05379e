use Rattle.std.proofs.Common.{arith}
use Rattle.std.proofs.lemmas.Bool.Decides.{nat_tests}
use Rattle.std.proofs.lemmas.Grind.{common_steps}
use Rattle.toml.proofs.Views.{has_items-view}
use Rattle.tables.proofs.filled.has_items.Goals as goal

pub returns : goal.returns
returns c = grind (arith, nat_tests, common_steps, has_items-view c.args.items.now.items)
