use Rattle.std.proofs.Common.{◌∷◌, ◌∙◌, [], bit_or}
use Rattle.std.specs.Simd.Lanes.{zip2}
use Rattle.version_sets.specs.inner.Forms.{universe_of, wide_words}
use Rattle.version_sets.specs.inner.Listed.{set_where}
use Rattle.version_sets.specs.Sets.{join}
use Rattle.version_sets.specs.inner.Words.{has_bit}
use Rattle.version_sets.proofs.Pairs.{made_is, pair_or, pair_or_words}
use Rattle.version_sets.proofs.Headed.{wide_set, words_of_wide}
use Rattle.version_sets.proofs.words.WordStatesStates.union.Goals as goal

pub of_word-requires : goal.of_word-requires
of_word-requires c = pair_or_words c.args.self.now c.args.other.now (c.in-Some.a ∷ [])
    (c.in-Some.b
    ∷ []) c.in-Some.ensures.one.0 c.in-Some.ensures.one.1 c.requires c.universe.result c.universe.ensures.universe

pub returns-in-Some : goal.returns-in-Some
returns-in-Some c = c.of_word.ensures ∙ pair_or c.args.self.now c.args.other.now (c.in-Some.a ∷ [])
    (c.in-Some.b
    ∷ []) c.in-Some.ensures.one.0 c.in-Some.ensures.one.1 c.requires c.universe.result c.universe.ensures.universe

pub of_wide-requires : goal.of_wide-requires
of_wide-requires c =
    let a = c.wide.result.now in
    let b = c.wide-2.result.now in
    words_of_wide (universe_of a) (zip2 bit_or (wide_words a) (wide_words b)) c.in_ok-joined.field-0
    c.in_ok-joined.ensures
    (pair_or_words c.args.self.now c.args.other.now (wide_words a) (wide_words b) c.wide.ensures.words
    c.wide-2.ensures.words c.requires (universe_of a) c.wide.ensures.universe)

pub returns : goal.returns
returns c =
    let a = c.wide.result.now in
    let b = c.wide-2.result.now in
    let made = c.in_ok-joined.field-0 in
    made_is c.of_wide.result (set_where (universe_of made) (has_bit (wide_words made)))
    (join c.args.self.now c.args.other.now) c.of_wide.ensures
    (wide_set (universe_of a) (zip2 bit_or (wide_words a) (wide_words b)) made c.in_ok-joined.ensures
    ∙ pair_or c.args.self.now c.args.other.now (wide_words a) (wide_words b) c.wide.ensures.words
    c.wide-2.ensures.words c.requires (universe_of a) c.wide.ensures.universe)
