use Rattle.std.proofs.Common.{◌∙◌, sym, ap, if◌then◌else◌, not}
use Rattle.version_sets.specs.Sets.{inside, meets}
use Rattle.version_sets.specs.inner.Forms.{wide_words}
use Rattle.version_sets.proofs.Pairs.{pair_apart, pair_within}
use Rattle.version_sets.proofs.words.WordStates.wide_compares.Goals as goal

pub returns-then-within : goal.returns-then-within
returns-then-within c =
    let a = c.args.self.now in
    let b = c.args.other.now in
    c.is_within.ensures
    ∙ pair_within a b (wide_words c.wide.result.now) (wide_words c.wide-then-within.result.now) c.wide.ensures.words
    c.wide-then-within.ensures.words c.requires.same
    ∙ sym (ap (λ x. if x then inside a b else not (meets a b)) c.if-within.true)

pub returns-else-within : goal.returns-else-within
returns-else-within c =
    let a = c.args.self.now in
    let b = c.args.other.now in
    c.is_disjoint.ensures
    ∙ pair_apart a b (wide_words c.wide-else-within.result.now) (wide_words c.wide-else-within-2.result.now)
    c.wide-else-within.ensures.words c.wide-else-within-2.ensures.words c.requires.same
    ∙ sym (ap (λ x. if x then inside a b else not (meets a b)) c.if-within.false)
