use Rattle.std.proofs.Common.{◌≡◌, ◌+◌, ◌*◌, ap, ◌∙◌, arith, bit_and}
use Rattle.version_sets.proofs.Fronts.{block_step, done_to, word_step}
use Rattle.version_sets.proofs.kernels.keep_common.Goals as goal

pub vectors-preserved : goal.vectors-preserved
vectors-preserved c =
    let a = c.args.words.now in
    let b = c.args.other.now in
    let next : c.vectors.block * 8 + 8 ≡ (c.vectors.block + 1) * 8 = omega arith in
    c.keep_common_block.ensures ∙ rw c.vectors.invariant
    (block_step bit_and (c.vectors.block * 8) a b (omega arith) c.requires) ∙ ap (λ n. done_to bit_and n a b) next

pub rest-preserved : goal.rest-preserved
rest-preserved c =
    rw c.rest.invariant (word_step bit_and c.rest.i c.args.words.now c.args.other.now (omega arith) c.requires)
