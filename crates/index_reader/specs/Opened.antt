-- What is read of a file by its path and up to how many bytes, what an error means for it, and what a folder on a disk
-- answers (our own).
use Rattle.std.specs.Prelude.{◌≡◌, ◌≢◌, ◌⊎◌, ℕ, ◌==◌, if◌then◌else◌, List, ◌++◌, length, Option, Some, None, Result, Ok}
use Rattle.std.specs.Prelude.{Err, IfSome, Vec, codes, take}
use Rattle.std.specs.IoError.{error_kind, raw_os_error}
use Rattle.std.specs.declared.alloc.Global.{Global}
use Rattle.std.specs.declared.io.Error.{Error}
use Rattle.std.specs.declared.io.ErrorKind.TheVariants as kind
use Rattle.index_reader.specs.declared.folder.FolderFault.TheVariants as folder
use Rattle.index_reader.specs.declared.opened.FileFault.{FileFault}
use Rattle.index_reader.specs.declared.opened.FileFault.TheVariants.{OutOfMemory, NotFound, Unreadable}
use Rattle.index_reader.specs.Folders.{Answer, counted}

-- an empty path of a folder is the present one
abbrev pub or_present : List ℕ → List ℕ
or_present folder = if length folder == 0 then codes "." else folder

-- the path of a file below a folder
abbrev pub path_below : List ℕ → List ℕ → List ℕ
path_below folder path = or_present folder ++ codes "/" ++ path

-- want of memory that no system call said
abbrev pub IsOurWant : Error → Type 0
IsOurWant e = (error_kind e ≡ kind.OutOfMemory) × (raw_os_error e ≡ None)

-- what an error means for the file
abbrev pub IsFaultOf : Error → FileFault → Type 0
IsFaultOf e NotFound = error_kind e ≡ kind.NotFound
IsFaultOf e OutOfMemory = IsOurWant e
IsFaultOf e Unreadable = (error_kind e ≢ kind.NotFound) × ¬ (IsOurWant e)

-- Files are opened by their paths; of one that is open some bytes are left, where they are known, and reading them may
-- end with an error.
module _ {F : Type 0} (opens : List ℕ → Result F Error → Type 0) (left : F → Option (List ℕ))
    (fails : F → Error → Type 0) where
  -- the first bytes of the file at a path, or the error of opening or of reading it
  abbrev pub IsFront : List ℕ → ℕ → Result (Vec ℕ Global) Error → Type 0
  IsFront path most (Ok bytes) =
      (file : F) × opens path (Ok file) × IfSome (left file) (λ whole. bytes.items ≡ take most whole)
  IsFront path most (Err e) = opens path (Err e) ⊎ ((file : F) × opens path (Ok file) × fails file e)

  -- the same, where the error is told by what it means
  abbrev pub IsRead : List ℕ → ℕ → Result (Vec ℕ Global) FileFault → Type 0
  IsRead path most (Ok bytes) = IsFront path most (Ok bytes)
  IsRead path most (Err fault) = (e : Error) × IsFront path most (Err e) × IsFaultOf e fault

-- one byte more than an index file may have
abbrev pub most_of_index : ℕ
most_of_index = 16_777_217

-- what a folder answers where reading gives this
abbrev pub answer_of : Result (Vec ℕ Global) FileFault → Answer
answer_of (Ok bytes) = Ok (Some bytes.items)
answer_of (Err NotFound) = Ok None
answer_of (Err OutOfMemory) = Err folder.OutOfMemory
answer_of (Err Unreadable) = Err folder.Failed

-- a folder on a disk: what opens its files, its path, and how often a call failed
pub record OnDisk (O : Type 0) : Type 0 where
  pub opener : O
  pub path : List ℕ
  pub failures : ℕ

-- the failures after an answer: each is counted
abbrev pub failures_after : ℕ → Answer → ℕ
failures_after n (Ok o) = n
failures_after n (Err folder.OutOfMemory) = n
failures_after n (Err folder.Failed) = counted n

module _ {O F : Type 0} (opens : O → List ℕ → Result F Error → Type 0) (left : F → Option (List ℕ))
    (fails : F → Error → Type 0) where
  -- A call of a folder on a disk: the file at the path below it is read, unless memory is wanting for that path.
  -- Nothing but the count of failures changes.
  pub record DiskCalls (old : OnDisk O) (path : List ℕ) (answer : Answer) (new : OnDisk O) : Type 0 where
    pub answers : (answer ≡ Err folder.OutOfMemory)
        ⊎ ((given : Result (Vec ℕ Global) FileFault) × IsRead (opens old.opener) left fails
        (path_below old.path path) most_of_index given × (answer ≡ answer_of given))
    pub leaves : new ≡ record { opener = old.opener; path = old.path; failures = failures_after old.failures answer }
