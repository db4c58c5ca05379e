use Rattle.std.proofs.Common.{◌∙◌, ap, arith, subst, sym}
use Rattle.version_sets.specs.inner.Forms.{universe_in, universe_of, wide_words}
use Rattle.version_sets.specs.inner.Words.{AreWords}
use Rattle.version_sets.proofs.Pairs.{form_universe, lone_small, one_words, wide_words_are}
use Rattle.version_sets.proofs.words.WordStates.wide.Goals as goal

pub unreachable-requires : goal.unreachable-requires
unreachable-requires c = omega (
  arith,
  lone_small c.args.self.now c.in-One.word (one_words c.self.inside.form
      c.args.self.now c.self.invariant c.self.view_is c.in-One.universe c.in-One.word c.in-One.is),
)

pub returns-clause-words : goal.returns-clause-words
returns-clause-words c = subst (λ w. AreWords c.args.self.now (wide_words w)) (sym c.deref.ensures)
    (wide_words_are c.self.inside.form c.args.self.now c.self.invariant c.self.view_is c.in-Many.wide c.in-Many.is)

pub returns-clause-universe : goal.returns-clause-universe
returns-clause-universe c = ap universe_of c.deref.ensures ∙ ap universe_in (sym c.in-Many.is)
    ∙ form_universe c.self.inside.form c.args.self.now c.self.invariant c.self.view_is
