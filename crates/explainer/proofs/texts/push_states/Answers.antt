use Rattle.std.proofs.Common.{codes}
use Rattle.vertices.specs.Texts.{state_text}
use Rattle.derivations.specs.inner.Tables.{state_at}
use Rattle.explainer.proofs.Between.{all-written}
use Rattle.explainer.proofs.texts.push_states.Goals as goal

pub returns : goal.returns
returns c = all-written (codes ", ") state_text (state_at c.args.tables.now) _ _ c.states.later c.states.number-index
    c.args.states.now c.states-test.false c.states.invariant
