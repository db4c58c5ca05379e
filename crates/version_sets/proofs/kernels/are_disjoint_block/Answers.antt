use Rattle.std.proofs.Common.{bit_and}
use Rattle.std.specs.Simd.Lanes.{chunk, zip2}
use Rattle.version_sets.proofs.Fronts.{lanes_zero}
use Rattle.version_sets.proofs.kernels.are_disjoint_block.Goals as goal

pub returns : goal.returns
returns c = lanes_zero (zip2 bit_and (chunk c.args.at 8 c.args.words.now) (chunk c.args.at 8 c.args.other.now))
