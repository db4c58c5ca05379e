-- What it is for an answer that was given to hold in a later call over the same folder.
use Rattle.std.specs.Prelude.{◌≡◌, ℕ, true, List, Contains, Option, Some, Result, Ok, Err}
use Rattle.index_reader.specs.Folders.{Files, file_at, path_of}
use Rattle.catalogue.specs.declared.store.Prefer.TheVariants.{Newest}
use Rattle.selection.specs.declared.verdict.Verdict.{Verdict}
use Rattle.selection.specs.declared.verdict.Verdict.TheVariants.{Valid}
use Rattle.checker.specs.declared.outcome.Check.{Check}
use Rattle.checker.specs.declared.outcome.Check.TheVariants.{Proves}
use Rattle.resolver.specs.Inputs.{input_wants_memory, RequestView}
use Rattle.resolver.specs.declared.fault.Fault.{Fault}
use Rattle.resolver.specs.declared.fault.CheckFault.{CheckFault}
use Rattle.resolver.specs.declared.fault.CheckFault.TheVariants.{Input, Proof}
use Rattle.resolver.specs.declared.resolving.Answer.{Answer}
use Rattle.resolver.specs.declared.resolving.Answer.TheVariants.{Lock, Unsolvable}

-- the same request, with these bytes as the old lock
abbrev pub handed_in : RequestView → List ℕ → RequestView
handed_in request bytes = record request { old = Some bytes }

-- the same request with this lock, as a verdict on it is asked for
abbrev pub to_verify : RequestView → List ℕ → RequestView
to_verify request lock = record request { old = Some lock; prefer = Newest }

-- the same request, as the check of a derivation is asked for
abbrev pub to_check : RequestView → RequestView
to_check request = record request { prefer = Newest }

-- the same bytes, which are said to be kept; want of memory alone may come between
abbrev pub ComesBack : List ℕ → Result Answer Fault → Type 0
ComesBack bytes (Ok (Lock again kept skips)) = (again.items ≡ bytes) × (kept ≡ true)
ComesBack bytes (Ok (Unsolvable derivation text skips)) = ⊥
ComesBack bytes (Err f) = input_wants_memory f ≡ true

-- the lock is valid; want of memory alone may come between
abbrev pub FindsValid : Result Verdict Fault → Type 0
FindsValid (Ok verdict) = verdict ≡ Valid
FindsValid (Err f) = input_wants_memory f ≡ true

-- the derivation proves that there is no selection; want of memory alone may come between
abbrev pub FindsProof : Result Check CheckFault → Type 0
FindsProof (Ok check) = check ≡ Proves
FindsProof (Err (Input f)) = input_wants_memory f ≡ true
FindsProof (Err (Proof fault)) = ⊥

-- the answer is a lock
abbrev pub IsSomeLock : Answer → Type 0
IsSomeLock (Lock bytes kept skips) = Unit {0}
IsSomeLock (Unsolvable derivation text skips) = ⊥

-- two folders have the same files for these names
abbrev pub AreAlike : List (List ℕ) → Files → Files → Type 0
AreAlike names folder other =
    (name : List ℕ) → Contains names name → file_at other (path_of name) ≡ file_at folder (path_of name)

-- the file of a name, in a map of files
abbrev pub files_of : Files → List ℕ → Option (List ℕ)
files_of folder name = file_at folder (path_of name)
