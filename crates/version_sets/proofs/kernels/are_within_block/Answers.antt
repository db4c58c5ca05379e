use Rattle.std.proofs.Common.{◌∙◌, ap, eqb, bit_or}
use Rattle.std.specs.Simd.Lanes.{chunk, fold_l, zip2}
use Rattle.version_sets.specs.inner.Words.{and_not}
use Rattle.version_sets.proofs.Fronts.{lanes_zero, not_lanes}
use Rattle.version_sets.proofs.kernels.are_within_block.Goals as goal

pub returns : goal.returns
returns c =
    ap (λ l. eqb (fold_l bit_or 0 l) 0)
    (not_lanes (chunk c.args.at 8 c.args.words.now) (chunk c.args.at 8 c.args.other.now))
    ∙ lanes_zero (zip2 and_not (chunk c.args.at 8 c.args.words.now) (chunk c.args.at 8 c.args.other.now))
