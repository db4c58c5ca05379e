-- When words are wrong use, or ask for help: as `clap` says.
use Rattle.std.specs.Prelude.{◌≡◌, ◌⊎◌, ℕ, Bool, true, false, List, [], None, string_bytes}
use Rattle.clap.specs.Words.{IsAmong, Kinds, Text}
use Rattle.clap.specs.declared.error.kind.ErrorKind.{ErrorKind}
use Rattle.clap.specs.declared.error.kind.ErrorKind.TheVariants as kind
use Rattle.words.specs.Asked.{faults, parsed}
use Rattle.words.specs.declared.fault.WordsFault.{WordsFault}
use Rattle.words.specs.declared.fault.WordsFault.TheVariants.{OutOfMemory, Help, Wrong}

-- the error doesn't only show a text that was asked for
abbrev pub IsWrongUse : ErrorKind → Type 0
IsWrongUse k = (k ≡ kind.DisplayHelp → ⊥) × (k ≡ kind.DisplayVersion → ⊥)

-- the fault that stands for an error of this kind; memory may be wanting beside it
abbrev pub Tells : ErrorKind → WordsFault → Type 0
Tells k OutOfMemory = Unit {0}
Tells k (Help text) = IsWrongUse k → ⊥
Tells k (Wrong text) = IsWrongUse k × (k ≡ kind.OutOfMemory → ⊥)

-- wrong use or help, as is said; memory may run out beside it
abbrev pub IsToldAs : Bool → WordsFault → Type 0
IsToldAs is_wrong OutOfMemory = Unit {0}
IsToldAs is_wrong (Help text) = is_wrong ≡ false
IsToldAs is_wrong (Wrong text) = is_wrong ≡ true

-- its text, if it has one
abbrev pub HasText : List ℕ → WordsFault → Type 0
HasText shown OutOfMemory = Unit {0}
HasText shown (Help text) = string_bytes text ≡ shown
HasText shown (Wrong text) = string_bytes text ≡ shown

-- the fault stands for one of these kinds
abbrev pub TellsOne : Kinds → WordsFault → Type 0
TellsOne kinds fault = (k : ErrorKind) × IsAmong k kinds × Tells k fault

-- `clap` has an error for the words, or they name no command with all that it needs
abbrev pub IsWordsFault : List Text → WordsFault → Type 0
IsWordsFault words OutOfMemory = Unit {0}
IsWordsFault words (Help text) = TellsOne (faults words) (Help text)
IsWordsFault words (Wrong text) = TellsOne (faults words) (Wrong text) ⊎ ((faults words ≡ []) × (parsed words ≡ None))
