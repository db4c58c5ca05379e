use Rattle.std.proofs.Common.{◌≡◌, ◌*◌, bit_and}
use Rattle.version_sets.proofs.Fronts.{done_to}
use Rattle.version_sets.proofs.kernels.keep_common.Given as goal

abbrev pub invariant-vectors : goal.invariant-vectors
invariant-vectors l = l.words ≡ done_to bit_and (l.block * 8) l.fn.words l.other

abbrev pub invariant-rest : goal.invariant-rest
invariant-rest l = l.words ≡ done_to bit_and l.i l.fn.words l.other
