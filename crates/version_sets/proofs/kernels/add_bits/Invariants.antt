use Rattle.std.proofs.Common.{◌≡◌, ◌*◌, bit_or}
use Rattle.version_sets.proofs.Fronts.{done_to}
use Rattle.version_sets.proofs.kernels.add_bits.Given as goal

abbrev pub invariant-vectors : goal.invariant-vectors
invariant-vectors l = l.words ≡ done_to bit_or (l.block * 8) l.fn.words l.other

abbrev pub invariant-rest : goal.invariant-rest
invariant-rest l = l.words ≡ done_to bit_or l.i l.fn.words l.other
