use Rattle.std.proofs.Common.{◌∙◌, arith, true}
use Rattle.version_sets.specs.inner.Forms.{universe_of, wide_words}
use Rattle.version_sets.specs.inner.Listed.{set_where}
use Rattle.version_sets.specs.inner.Windows.{flank}
use Rattle.version_sets.specs.Sets.{every}
use Rattle.version_sets.specs.inner.Words.{has_bit}
use Rattle.version_sets.proofs.Filled.{ones_are}
use Rattle.version_sets.proofs.Pairs.{made_is}
use Rattle.version_sets.proofs.Whole.{flank_words, full_set}
use Rattle.version_sets.proofs.Headed.{wide_set, words_of_wide}
use Rattle.version_sets.proofs.words.WordStatesStates.full.Goals as goal

pub returns-then-universe-le64 : goal.returns-then-universe-le64
returns-then-universe-le64 c =
    c.of_low_bits.ensures ∙ ones_are c.args.universe 1 (omega (arith, c.if-universe-le64.true))

pub of_wide-requires : goal.of_wide-requires
of_wide-requires c = words_of_wide c.args.universe (flank c.args.universe true) c.even.result c.even.ensures
    (flank_words c.args.universe true c.requires)

pub returns : goal.returns
returns c =
    let w = c.even.result in
    made_is c.of_wide.result (set_where (universe_of w) (has_bit (wide_words w))) (every c.args.universe)
    c.of_wide.ensures
    (wide_set c.args.universe (flank c.args.universe true) w c.even.ensures ∙ full_set c.args.universe)
