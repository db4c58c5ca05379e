use Rattle.std.proofs.Common.{codes}
use Rattle.derivations.specs.inner.Tables.{term_at}
use Rattle.explainer.specs.Explanations.{term_words}
use Rattle.explainer.proofs.Between.{all-written}
use Rattle.explainer.proofs.explanation.push_terms.Goals as goal

pub returns : goal.returns
returns c = all-written (codes " and ") term_words (term_at c.args.texts.now) _ _ c.terms.later c.terms.term-index
    c.args.terms.now c.terms-test.false c.terms.invariant
