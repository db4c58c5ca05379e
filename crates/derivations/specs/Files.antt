-- Which bytes are derivations, and which derivations they are (the format is this project's).
use Rattle.std.specs.Prelude.{ℕ, ◌+◌, nat_lt, Bool, true, false, if◌then◌else◌, List, [], ◌∷◌, ◌++◌, length}
use Rattle.std.specs.Prelude.{Result, Ok, Err}
use Rattle.std.specs.List.{slice_split}
use Rattle.model.specs.Outcome.{◌>>=◌}
use Rattle.trees.specs.Trees.{is_blank, is_line_end}
use Rattle.model.specs.Derivation.{Step}
use Rattle.derivations.specs.Steps.{step_of_line}
use Rattle.derivations.specs.Lines.{Line}
use Rattle.derivations.specs.declared.fault.LineFault.{LineFault}
use Rattle.derivations.specs.declared.fault.LineFault.TheVariants as line
use Rattle.derivations.specs.declared.fault.DerivationFault.{DerivationFault}
use Rattle.derivations.specs.declared.fault.DerivationFault.TheVariants.{OutOfMemory, NotALine, Forward, TooMany}

-- the fault that says only that memory was wanting
abbrev pub wants_memory : DerivationFault → Bool
wants_memory OutOfMemory = true
wants_memory (NotALine n) = false
wants_memory (Forward n) = false
wants_memory (TooMany n) = false

-- a fault of a line, with the line's number
abbrev pub fault_at : ℕ → LineFault → DerivationFault
fault_at n line.OutOfMemory = OutOfMemory
fault_at n line.NotALine = NotALine n
fault_at n line.Forward = Forward n

-- how many steps are read: a derivation may have more
abbrev pub most_steps : ℕ
most_steps = 16777216

-- the steps with one more, if there is room for it
abbrev pub with_step : ℕ → List Step → Step → Result (List Step) DerivationFault
with_step n steps s = if nat_lt (length steps) most_steps then Ok (steps ++ s ∷ []) else Err (TooMany n)

abbrev pub with_read : ℕ → List Step → Line Step → Result (List Step) DerivationFault
with_read n steps (Ok s) = with_step n steps s
with_read n steps (Err e) = Err (fault_at n e)

-- the steps up to and with the line of this number: a blank one is read over
abbrev pub with_line : ℕ → List ℕ → List Step → Result (List Step) DerivationFault
with_line n text steps = if is_blank text then Ok steps else with_read n steps (step_of_line (length steps) text)

-- the same with these lines, the first of which has this number
unfoldable pub with_lines : ℕ → List (List ℕ) → List Step → Result (List Step) DerivationFault
with_lines n [] steps = Ok steps
with_lines n (text ∷ texts) steps = with_line n text steps >>= λ next. with_lines (n + 1) texts next

-- the derivation that bytes are, or the first line with a fault and the first fault that it has
abbrev pub derivation_of_bytes : List ℕ → Result (List Step) DerivationFault
derivation_of_bytes bytes = with_lines 1 (slice_split is_line_end bytes) []
