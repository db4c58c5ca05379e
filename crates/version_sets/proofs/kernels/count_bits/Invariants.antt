use Rattle.std.proofs.Common.{◌≡◌, ◌+◌, drop}
use Rattle.version_sets.specs.inner.Words.{ones_in}
use Rattle.version_sets.proofs.kernels.count_bits.Given as goal

abbrev pub invariant-words : goal.invariant-words
invariant-words l = l.total + ones_in (drop l.word-index l.words) ≡ ones_in l.words
