use Rattle.std.proofs.Common.{◌≡◌, ◌++◌, drop, false, string_bytes}
use Rattle.derivations.specs.inner.Tables.{states_at}
use Rattle.derivations.specs.Written.{state_json}
use Rattle.derivations.proofs.Commas.{separated}
use Rattle.derivations.proofs.writing.push_states.Given as goal

-- what is written, with what is left, is the whole
abbrev pub invariant-states : goal.invariant-states
invariant-states l =
    string_bytes l.text ++ separated state_json l.later (states_at l.tables (drop l.number-index l.states))
    ≡ string_bytes l.fn.text ++ separated state_json false (states_at l.tables l.states)
