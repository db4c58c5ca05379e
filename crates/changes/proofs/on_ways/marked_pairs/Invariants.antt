use Rattle.std.proofs.Common.{◌≡◌, take}
use Rattle.std.specs.List.{filter}
use Rattle.changes.specs.inner.OnWays.{are_both}
use Rattle.changes.proofs.on_ways.marked_pairs.Given as goal

abbrev pub invariant-pairs : goal.invariant-pairs
invariant-pairs l = l.found.items ≡ filter (are_both l.ahead l.back) (take l.from-index l.pairs)
