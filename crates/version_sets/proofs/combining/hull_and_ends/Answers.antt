use Rattle.std.proofs.Common.{arith}
use Rattle.version_sets.proofs.combining.hull_and_ends.Goals as goal

pub returns : goal.returns
returns c = record {
  first = c.hull-first.result.0;
  last = c.hull-first.result.1;
  hull = c.hull-first.ensures;
  from_is = omega arith;
  to_is = omega arith;
}
