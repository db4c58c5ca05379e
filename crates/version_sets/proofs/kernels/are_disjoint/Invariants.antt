use Rattle.std.proofs.Common.{◌≡◌, ◌*◌, drop}
use Rattle.std.specs.Simd.Lanes.{zip2}
use Rattle.version_sets.specs.inner.Words.{all_zero}
use Rattle.std.proofs.Common.{bit_and}
use Rattle.version_sets.proofs.kernels.are_disjoint.Given as goal

abbrev pub invariant-vectors : goal.invariant-vectors
invariant-vectors l = all_zero (zip2 bit_and (drop (l.block * 8) l.words) (drop (l.block * 8) l.other))
    ≡ all_zero (zip2 bit_and l.words l.other)

abbrev pub invariant-rest : goal.invariant-rest
invariant-rest l =
    all_zero (zip2 bit_and (drop l.i l.words) (drop l.i l.other)) ≡ all_zero (zip2 bit_and l.words l.other)
