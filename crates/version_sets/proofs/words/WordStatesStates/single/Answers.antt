use Rattle.std.proofs.Common.{◌∙◌, ap}
use Rattle.version_sets.specs.inner.Forms.{universe_of, wide_words}
use Rattle.version_sets.specs.inner.Listed.{set_where}
use Rattle.version_sets.specs.Sets.{only}
use Rattle.version_sets.specs.inner.Words.{has_bit}
use Rattle.version_sets.proofs.Filled.{lone_bit}
use Rattle.version_sets.proofs.Pairs.{made_is}
use Rattle.version_sets.proofs.Ranges.{between_one}
use Rattle.version_sets.proofs.words.WordStatesStates.single.Goals as goal

pub of_word-requires : goal.of_word-requires
of_word-requires c = (lone_bit c.args.universe c.args.member c.one_bit.result c.if-universe-le64.true
    c.requires.below c.one_bit.ensures).0

pub returns-then-universe-le64 : goal.returns-then-universe-le64
returns-then-universe-le64 c = c.of_word.ensures ∙ (lone_bit c.args.universe c.args.member c.one_bit.result
    c.if-universe-le64.true c.requires.below c.one_bit.ensures).1

pub of_wide-requires : goal.of_wide-requires
of_wide-requires c = c.in_ok-of_range.ensures.words

pub returns : goal.returns
returns c =
    let w = c.in_ok-of_range.field-0 in
    made_is c.of_wide.result (set_where (universe_of w) (has_bit (wide_words w))) (only c.args.universe c.args.member)
    c.of_wide.ensures (ap (λ n. set_where n (has_bit (wide_words w))) c.in_ok-of_range.ensures.universe
    ∙ c.in_ok-of_range.ensures.set ∙ between_one c.args.universe c.args.member c.requires.below)
