use Rattle.std.proofs.Common.{◌*◌, ◌+◌, ◌∷◌, ◌∙◌, [], ap, arith, get_or, sym}
use Rattle.std.proofs.lemmas.List.{get_or_past}
use Rattle.version_sets.specs.Sets.{has}
use Rattle.version_sets.specs.inner.Forms.{wide_words}
use Rattle.version_sets.proofs.Bits.{bit_is}
use Rattle.version_sets.proofs.Pairs.{one_words, wide_words_are, word_number}
use Rattle.version_sets.proofs.words.WordStates.word_at.Goals as goal

pub returns-then-place-eq0 : goal.returns-then-place-eq0
returns-then-place-eq0 c = λ j low. word_number c.args.self.now (c.in-One.word ∷ [])
    (one_words c.self.inside.form c.args.self.now c.self.invariant c.self.view_is c.in-One.universe c.in-One.word
    c.in-One.is) 0 j low ∙ ap (λ k. has c.args.self.now (64 * k + j)) (sym c.if-place-eq0.true)

pub returns-else-place-eq0 : goal.returns-else-place-eq0
returns-else-place-eq0 c = λ j low. ap (λ w. bit_is w j) (sym (get_or_past (c.in-One.word ∷ []) c.args.place 0
    (omega (arith, c.if-place-eq0.false)))) ∙ word_number c.args.self.now (c.in-One.word ∷ [])
    (one_words c.self.inside.form c.args.self.now c.self.invariant c.self.view_is c.in-One.universe c.in-One.word
    c.in-One.is) c.args.place j low

pub returns-in-Many : goal.returns-in-Many
returns-in-Many c = λ j low. ap (λ w. bit_is w j) (c.at.ensures ∙ ap (λ w. get_or (wide_words w) c.args.place 0)
    c.deref.ensures) ∙ word_number c.args.self.now (wide_words c.in-Many.wide.value) (wide_words_are
    c.self.inside.form c.args.self.now c.self.invariant c.self.view_is c.in-Many.wide c.in-Many.is) c.args.place j low
