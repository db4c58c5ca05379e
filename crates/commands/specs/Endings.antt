-- Why a run ends before its answer, and the line that says so (the texts are this project's own).
use Rattle.std.specs.Prelude.{◌≡◌, ℕ, Bool, true, false, List, ◌++◌, Result, Ok, Err, codes}
use Rattle.resolver.specs.Texts.{check_fault_text}
use Rattle.resolver.specs.declared.fault.CheckFault.{CheckFault}
use Rattle.resolver.specs.declared.fault.CheckFault.TheVariants.{Input}
use Rattle.resolver.specs.declared.fault.Fault.TheVariants.{OutOfMemory}
use Rattle.commands.specs.declared.ending.Ending.{Ending}
use Rattle.commands.specs.declared.ending.Ending.TheVariants as ending

-- a fault of what was read, a `--source` that is none, a file that can't be read, standard output or a file that can't
-- be written
pub data EndingView : Type 0 where
  fault : CheckFault → EndingView
  bad_source : EndingView
  cannot_read : List ℕ → EndingView
  cannot_write : EndingView
  cannot_write_file : List ℕ → EndingView

abbrev pub out_of_memory : EndingView
out_of_memory = fault (Input OutOfMemory)

abbrev pub ending_view : Ending → EndingView
ending_view (ending.Fault f) = fault f
ending_view ending.BadSource = bad_source
ending_view (ending.CannotRead path) = cannot_read path.now
ending_view ending.CannotWrite = cannot_write
ending_view (ending.CannotWriteFile path) = cannot_write_file path.now

-- memory was wanting
abbrev pub WantsMemory : Ending → Type 0
WantsMemory ending = ending_view ending ≡ out_of_memory

abbrev pub ending_text : EndingView → List ℕ
ending_text (fault f) = check_fault_text f
ending_text bad_source = codes "bad source"
ending_text (cannot_read path) = codes "cannot read " ++ path
ending_text cannot_write = codes "cannot write"
ending_text (cannot_write_file path) = codes "cannot write " ++ path

-- whether a run ended before any of its answer was to be written
abbrev pub is_before : EndingView → Bool
is_before (fault f) = true
is_before bad_source = true
is_before (cannot_read path) = true
is_before cannot_write = false
is_before (cannot_write_file path) = true

abbrev pub has_ended_before : {T : Type 0} → Result T Ending → Bool
has_ended_before (Ok x) = false
has_ended_before (Err ending) = is_before (ending_view ending)
