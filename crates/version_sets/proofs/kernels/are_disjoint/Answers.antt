use Rattle.std.proofs.Common.{◌+◌, ◌*◌, arith}
use Rattle.std.specs.Simd.Lanes.{zip2}
use Rattle.std.proofs.Common.{bit_and}
use Rattle.version_sets.specs.inner.Words.{all_zero}
use Rattle.version_sets.proofs.Fronts.{block_fails, block_more}
use Rattle.version_sets.proofs.kernels.are_disjoint.Goals as goal

pub vectors-preserved : goal.vectors-preserved
vectors-preserved c =
    block_more bit_and (c.vectors.block * 8) ((c.vectors.block + 1) * 8) c.args.words.now c.args.other.now
    c.are_disjoint_block.result (all_zero (zip2 bit_and c.args.words.now c.args.other.now))
    (omega arith)
    (omega arith) c.requires c.are_disjoint_block.ensures c.if-not-are_disjoint_block.false c.vectors.invariant

pub returns-then-not-are_disjoint_block : goal.returns-then-not-are_disjoint_block
returns-then-not-are_disjoint_block c =
    block_fails bit_and (c.vectors.block * 8) c.args.words.now c.args.other.now c.are_disjoint_block.result
    (all_zero (zip2 bit_and c.args.words.now c.args.other.now))
    (omega arith) c.requires c.are_disjoint_block.ensures c.if-not-are_disjoint_block.true c.vectors.invariant
