use Rattle.std.proofs.Common.{◌≡◌, ◌++◌, drop, string_bytes}
use Rattle.derivations.specs.inner.Tables.{steps_at}
use Rattle.derivations.specs.Written.{lines_of}
use Rattle.derivations.proofs.writing.text_of.Given as goal

-- what is written, with what is left, is the whole
abbrev pub invariant-steps : goal.invariant-steps
invariant-steps l = string_bytes l.text ++ lines_of (steps_at l.tables (drop l.step-index l.steps))
    ≡ lines_of (steps_at l.tables l.steps)
