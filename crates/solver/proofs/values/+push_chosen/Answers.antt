use Rattle.std.proofs.Common.{rules}
use Rattle.solver.proofs.Skipped.{skipped}
use Rattle.solver.proofs.values.+push_chosen.Goals as goal

pub returns-then-disjoint : goal.returns-then-disjoint
returns-then-disjoint g t c = search (rules, skipped)
