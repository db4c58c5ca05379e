use Rattle.std.proofs.Common.{◌∙◌}
use Rattle.version_sets.specs.inner.Forms.{universe_of, wide_words}
use Rattle.version_sets.specs.inner.Listed.{set_where}
use Rattle.version_sets.specs.inner.Words.{has_bit}
use Rattle.version_sets.proofs.Pairs.{its_set, its_words, made_is}
use Rattle.version_sets.proofs.Headed.{wide_set, words_of_wide}
use Rattle.version_sets.proofs.words.WordStatesStates.copy.Goals as goal

pub of_wide-requires : goal.of_wide-requires
of_wide-requires c =
    let w = c.wide.result.now in
    words_of_wide (universe_of w) (wide_words w) c.in_ok-copy.field-0 c.in_ok-copy.ensures
    (its_words c.args.self.now (wide_words w) c.wide.ensures.words (universe_of w) c.wide.ensures.universe)

pub returns : goal.returns
returns c =
    let w = c.wide.result.now in
    let made = c.in_ok-copy.field-0 in
    made_is c.of_wide.result (set_where (universe_of made) (has_bit (wide_words made))) c.args.self.now
    c.of_wide.ensures (wide_set (universe_of w) (wide_words w) made c.in_ok-copy.ensures
    ∙ its_set c.args.self.now (wide_words w) c.wide.ensures.words (universe_of w) c.wide.ensures.universe)
