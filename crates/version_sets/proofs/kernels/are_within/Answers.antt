use Rattle.std.proofs.Common.{◌+◌, ◌*◌, arith}
use Rattle.std.specs.Simd.Lanes.{zip2}
use Rattle.version_sets.specs.inner.Words.{all_zero, and_not}
use Rattle.version_sets.proofs.Fronts.{block_fails, block_more}
use Rattle.version_sets.proofs.kernels.are_within.Goals as goal

pub vectors-preserved : goal.vectors-preserved
vectors-preserved c =
    block_more and_not (c.vectors.block * 8) ((c.vectors.block + 1) * 8) c.args.words.now c.args.other.now
    c.are_within_block.result (all_zero (zip2 and_not c.args.words.now c.args.other.now))
    (omega arith)
    (omega arith) c.requires c.are_within_block.ensures c.if-not-are_within_block.false c.vectors.invariant

pub returns-then-not-are_within_block : goal.returns-then-not-are_within_block
returns-then-not-are_within_block c =
    block_fails and_not (c.vectors.block * 8) c.args.words.now c.args.other.now c.are_within_block.result
    (all_zero (zip2 and_not c.args.words.now c.args.other.now))
    (omega arith) c.requires c.are_within_block.ensures c.if-not-are_within_block.true c.vectors.invariant
