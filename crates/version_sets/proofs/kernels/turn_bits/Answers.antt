use Rattle.std.proofs.Common.{◌≡◌, ◌+◌, ◌*◌, ap, ◌∙◌, arith}
use Rattle.std.specs.Int.{bit_not, w64}
use Rattle.version_sets.proofs.Fronts.{turn_block, turn_word, turned_to}
use Rattle.version_sets.proofs.kernels.turn_bits.Goals as goal

pub vectors-preserved : goal.vectors-preserved
vectors-preserved c =
    let a = c.args.words.now in
    let next : c.vectors.block * 8 + 8 ≡ (c.vectors.block + 1) * 8 = omega arith in
    c.turn_bits_block.ensures ∙ rw c.vectors.invariant (turn_block (bit_not w64) (c.vectors.block * 8) a (omega arith))
    ∙ ap (λ n. turned_to (bit_not w64) n a) next

pub rest-preserved : goal.rest-preserved
rest-preserved c =
    rw c.rest.invariant (turn_word (bit_not w64) c.rest.i c.args.words.now (omega arith))
