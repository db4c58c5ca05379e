use Rattle.std.proofs.Common.{◌∷◌, ◌∙◌, []}
use Rattle.version_sets.specs.inner.Forms.{universe_of, wide_words}
use Rattle.version_sets.specs.inner.Listed.{set_where}
use Rattle.version_sets.specs.Sets.{rest}
use Rattle.version_sets.specs.inner.Words.{has_bit}
use Rattle.version_sets.proofs.Pairs.{made_is, turned_set}
use Rattle.version_sets.proofs.Whole.{turned, turned_members, turned_words}
use Rattle.version_sets.proofs.Headed.{wide_set, words_of_wide}
use Rattle.version_sets.proofs.words.WordStatesStates.complement.Goals as goal

pub returns-in-Some : goal.returns-in-Some
returns-in-Some c = c.of_low_bits.ensures ∙ turned_set c.args.self.now (c.in-Some.word ∷ []) c.in-Some.ensures.one
    c.universe.result c.universe.ensures.universe

pub of_wide-requires : goal.of_wide-requires
of_wide-requires c =
    let w = c.wide.result.now in
    words_of_wide (universe_of w)
    (turned c.args.self.now (wide_words w) c.wide.ensures.words (universe_of w) c.wide.ensures.universe)
    c.in_ok-turned.field-0 c.in_ok-turned.ensures
    (turned_words c.args.self.now (wide_words w) c.wide.ensures.words (universe_of w) c.wide.ensures.universe)

pub returns : goal.returns
returns c =
    let w = c.wide.result.now in
    let made = c.in_ok-turned.field-0 in
    made_is c.of_wide.result (set_where (universe_of made) (has_bit (wide_words made))) (rest c.args.self.now)
    c.of_wide.ensures (wide_set (universe_of w)
    (turned c.args.self.now (wide_words w) c.wide.ensures.words (universe_of w) c.wide.ensures.universe)
    made c.in_ok-turned.ensures
    ∙ turned_members c.args.self.now (wide_words w) c.wide.ensures.words (universe_of w) c.wide.ensures.universe)
