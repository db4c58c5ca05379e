use Rattle.derivations.specs.inner.Tables.{state_at}
use Rattle.derivations.specs.Written.{state_json}
use Rattle.derivations.proofs.Commas.{all-written}
use Rattle.derivations.proofs.writing.push_states.Goals as goal

pub returns : goal.returns
returns c = all-written state_json (state_at c.args.tables.now) _ _ c.states.later c.states.number-index
    c.args.states.now c.states-test.false c.states.invariant
