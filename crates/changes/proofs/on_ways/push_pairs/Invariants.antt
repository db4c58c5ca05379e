use Rattle.std.proofs.Common.{◌≡◌, ◌++◌, take}
use Rattle.changes.specs.inner.OnWays.{pairs_at}
use Rattle.changes.proofs.on_ways.push_pairs.Given as goal

abbrev pub invariant-targets : goal.invariant-targets
invariant-targets l = l.pairs.items ≡ l.fn.pairs.items ++ pairs_at l.from (take l.target-index l.list)
