use Rattle.std.proofs.Common.{◌≡◌, take}
use Rattle.changes.specs.inner.OnWays.{rules_back}
use Rattle.changes.proofs.on_ways.rules_back.Given as goal

abbrev pub invariant-pairs : goal.invariant-pairs
invariant-pairs l = l.rules.items ≡ rules_back (take l.from-index l.pairs)
