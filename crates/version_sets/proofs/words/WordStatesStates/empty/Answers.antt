use Rattle.std.proofs.Common.{◌∙◌, false}
use Rattle.version_sets.specs.inner.Forms.{universe_of, wide_words}
use Rattle.version_sets.specs.inner.Listed.{set_where}
use Rattle.version_sets.specs.inner.Windows.{flank}
use Rattle.version_sets.specs.Sets.{none}
use Rattle.version_sets.specs.inner.Words.{has_bit}
use Rattle.version_sets.proofs.Filled.{zeros_are}
use Rattle.version_sets.proofs.Pairs.{made_is}
use Rattle.version_sets.proofs.Whole.{empty_set, flank_words}
use Rattle.version_sets.proofs.Headed.{wide_set, words_of_wide}
use Rattle.version_sets.proofs.words.WordStatesStates.empty.Goals as goal

pub returns-then-universe-le64 : goal.returns-then-universe-le64
returns-then-universe-le64 c = c.of_word.ensures ∙ zeros_are c.args.universe 1

pub of_wide-requires : goal.of_wide-requires
of_wide-requires c = words_of_wide c.args.universe (flank c.args.universe false) c.even.result c.even.ensures
    (flank_words c.args.universe false c.requires)

pub returns : goal.returns
returns c =
    let w = c.even.result in
    made_is c.of_wide.result (set_where (universe_of w) (has_bit (wide_words w))) (none c.args.universe)
    c.of_wide.ensures
    (wide_set c.args.universe (flank c.args.universe false) w c.even.ensures ∙ empty_set c.args.universe)
