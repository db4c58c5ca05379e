use Rattle.std.proofs.Common.{◌≡◌, ◌++◌, drop, string_bytes}
use Rattle.std.specs.List.{flat_map}
use Rattle.derivations.specs.inner.Tables.{steps_at}
use Rattle.explainer.specs.Explanations.{line_at}
use Rattle.explainer.proofs.explanation.lines.Given as goal

-- what is written, with what is left, is the whole
abbrev pub invariant-needed : goal.invariant-needed
invariant-needed l =
    string_bytes l.text ++ flat_map (line_at l.needed (steps_at l.texts l.steps)) (drop l.number-index l.needed)
    ≡ flat_map (line_at l.needed (steps_at l.texts l.steps)) l.needed
