use Rattle.std.proofs.Common.{◌∷◌, ◌∙◌, [], ap, subst, sym}
use Rattle.version_sets.specs.inner.Forms.{universe_of, wide_words}
use Rattle.version_sets.specs.inner.Listed.{set_where}
use Rattle.version_sets.specs.Sets.{between}
use Rattle.version_sets.specs.inner.Words.{IsWords, has_bit}
use Rattle.version_sets.proofs.Pairs.{made_is}
use Rattle.version_sets.proofs.Ranged.{lone_range, lone_range_set}
use Rattle.version_sets.proofs.words.WordStatesStates.of_range.Goals as goal

pub of_word-requires : goal.of_word-requires
of_word-requires c = subst (λ w. IsWords c.args.universe (w ∷ [])) (sym c.range_word.ensures)
    (lone_range c.args.universe c.args.from c.args.to c.if-universe-le64.true c.requires.within)

pub returns-then-universe-le64 : goal.returns-then-universe-le64
returns-then-universe-le64 c = c.of_word.ensures
    ∙ ap (λ w. set_where c.args.universe (has_bit (w ∷ []))) c.range_word.ensures ∙ lone_range_set c.args.universe
    c.args.from c.args.to c.if-universe-le64.true c.requires.within c.requires.rising

pub of_wide-requires : goal.of_wide-requires
of_wide-requires c = c.in_ok-of_range.ensures.words

pub returns : goal.returns
returns c =
    let w = c.in_ok-of_range.field-0 in
    made_is c.of_wide.result (set_where (universe_of w) (has_bit (wide_words w)))
    (between c.args.universe c.args.from c.args.to) c.of_wide.ensures
    (ap (λ n. set_where n (has_bit (wide_words w))) c.in_ok-of_range.ensures.universe ∙ c.in_ok-of_range.ensures.set)
