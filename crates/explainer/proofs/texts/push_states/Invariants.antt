use Rattle.std.proofs.Common.{◌≡◌, ◌++◌, drop, false, string_bytes, codes}
use Rattle.vertices.specs.Texts.{state_text}
use Rattle.derivations.specs.inner.Tables.{states_at}
use Rattle.explainer.proofs.Between.{separated}
use Rattle.explainer.proofs.texts.push_states.Given as goal

-- what is written, with what is left, is the whole
abbrev pub invariant-states : goal.invariant-states
invariant-states l =
    string_bytes l.text ++ separated (codes ", ") state_text l.later (states_at l.tables (drop l.number-index l.states))
    ≡ string_bytes l.fn.text ++ separated (codes ", ") state_text false (states_at l.tables l.states)
