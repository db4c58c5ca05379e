-- What a run reads of a disk and writes to it: by which path, how much, and how it ends where that can't be done.
use Rattle.std.specs.Prelude.{◌≡◌, ◌≢◌, ◌⊎◌, ◌+◌, ℕ, Bool, true, false, List, Option, Some, None, option_map, Result}
use Rattle.std.specs.Prelude.{Ok, Err, Vec}
use Rattle.std.specs.declared.alloc.Global.{Global}
use Rattle.manifest.specs.Manifests.{limit}
use Rattle.lockfile.specs.Locks.{most_bytes}
use Rattle.index_reader.specs.declared.opened.FileFault.{FileFault}
use Rattle.index_reader.specs.declared.opened.FileFault.TheVariants.{OutOfMemory, NotFound, Unreadable}
use Rattle.commands.specs.declared.ending.Ending.{Ending}
use Rattle.model.specs.Derivation.{Step}
use Rattle.derivations.specs.Written.{lines_of}
use Rattle.commands.specs.Endings.{EndingView, WantsMemory, cannot_read, cannot_write_file, out_of_memory, ending_view}

-- one byte more than a manifest may have
abbrev pub most_of_manifest : ℕ
most_of_manifest = limit + 1

-- one byte more than a lock may have
abbrev pub most_of_lock : ℕ
most_of_lock = most_bytes + 1

-- a derivation is read whole
abbrev pub most_of_proof : ℕ
most_of_proof = 18_446_744_073_709_551_615

abbrev pub file_ending : List ℕ → FileFault → EndingView
file_ending path OutOfMemory = out_of_memory
file_ending path NotFound = cannot_read path
file_ending path Unreadable = cannot_read path

-- what reading gives, by the path and by how many bytes are wanted at most
abbrev pub Reading : Type 1
Reading = List ℕ → ℕ → Result (Vec ℕ Global) FileFault → Type 0

module _ (reads : Reading) where
  -- a file that has to be there
  abbrev pub IsFile : List ℕ → ℕ → Result (Vec ℕ Global) Ending → Type 0
  IsFile path most (Ok bytes) = reads path most (Ok bytes)
  IsFile path most (Err ending) =
      (fault : FileFault) × reads path most (Err fault) × (ending_view ending ≡ file_ending path fault)

  -- an old lock: none where no path is given, and none where there is no file
  abbrev pub IsOld : Option (List ℕ) → Result (Option (Vec ℕ Global)) Ending → Type 0
  IsOld None given = given ≡ Ok None
  IsOld (Some path) (Ok (Some bytes)) = reads path most_of_lock (Ok bytes)
  IsOld (Some path) (Ok None) = reads path most_of_lock (Err NotFound)
  IsOld (Some path) (Err ending) = (fault : FileFault) × reads path most_of_lock (Err fault) × (fault ≢ NotFound)
      × (ending_view ending ≡ file_ending path fault)

  -- such a file can be had, and such an old lock
  abbrev pub HasFile : List ℕ → ℕ → Type 0
  HasFile path most = (bytes : Vec ℕ Global) × IsFile path most (Ok bytes)

  abbrev pub HasOld : Option (List ℕ) → Type 0
  HasOld path = (old : Option (Vec ℕ Global)) × IsOld path (Ok old)

abbrev pub bytes_if : Option (Vec ℕ Global) → Option (List ℕ)
bytes_if o = option_map (λ v. v.items) o

-- a write to the disk: the path, the bytes, and whether they came to be the file there
pub record FileWrite : Type 0 where
  pub path : List ℕ
  pub bytes : List ℕ
  pub is_made : Bool

-- all that is written to the disk: nothing, or once
abbrev pub Writing : Type 1
Writing = Option FileWrite → Type 0

-- by what a write does to a disk: where nothing is written, the disk is as it was
module _ {D : Type 0} (puts : D → List ℕ → List ℕ → Bool → D → Type 0) (old new : D) where
  abbrev pub writes : Writing
  writes None = new ≡ old
  writes (Some w) = puts old w.path w.bytes w.is_made new

module _ (writes : Writing) where
  -- the file of a derivation, where one is named: memory may be wanting for its lines, before any is written
  abbrev pub IsKept : Option (List ℕ) → List Step → Result (Unit {0}) Ending → Type 0
  IsKept None steps given = (given ≡ Ok tt) × writes None
  IsKept (Some path) steps (Ok given) = writes (Some (record { path = path; bytes = lines_of steps; is_made = true }))
  IsKept (Some path) steps (Err ending) = (WantsMemory ending × writes None)
      ⊎ (writes (Some (record { path = path; bytes = lines_of steps; is_made = false }))
      × (ending_view ending ≡ cannot_write_file path))
