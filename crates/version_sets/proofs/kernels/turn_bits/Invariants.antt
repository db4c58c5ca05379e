use Rattle.std.proofs.Common.{◌≡◌, ◌*◌}
use Rattle.std.specs.Int.{bit_not, w64}
use Rattle.version_sets.proofs.Fronts.{turned_to}
use Rattle.version_sets.proofs.kernels.turn_bits.Given as goal

abbrev pub invariant-vectors : goal.invariant-vectors
invariant-vectors l = l.words ≡ turned_to (bit_not w64) (l.block * 8) l.fn.words

abbrev pub invariant-rest : goal.invariant-rest
invariant-rest l = l.words ≡ turned_to (bit_not w64) l.i l.fn.words
