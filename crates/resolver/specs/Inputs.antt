-- What a call has read before it answers: the manifest, the old lock if there is one, and the index; or the first fault
-- on the way.
use Rattle.std.specs.Prelude.{Bool, true, false, ◌≡◌, ◌<◌, List, [], ◌∷◌, ◌++◌, length, map, ℕ, Option, Some, None}
use Rattle.std.specs.Prelude.{option_copied, Result, Ok, Err}
use Rattle.manifest.specs.declared.fault.ManifestFault.{ManifestFault}
use Rattle.lockfile.specs.declared.fault.LockFault.{LockFault}
use Rattle.catalogue.specs.declared.fault.LoadFault.{LoadFault}
use Rattle.derivations.specs.declared.fault.DerivationFault.{DerivationFault}
use Rattle.resolver.specs.declared.fault.Fault.{Fault}
use Rattle.resolver.specs.declared.fault.CheckFault.{CheckFault}
use Rattle.resolver.specs.declared.fault.CheckFault.TheVariants.{Input, Proof}
use Rattle.model.specs.Outcome.{◌>>=◌}
use Rattle.model.specs.Content.{Content, Problem, packages_if}
use Rattle.manifest.specs.Manifests.{ManifestView, manifest_of_bytes}
use Rattle.lockfile.specs.Locks.{content_of_bytes}
use Rattle.catalogue.specs.Loads.{Loads, IsAskedAtMost, IsSoFar, most_names, rust_for}
use Rattle.catalogue.specs.Problems.{names_in, problem_in}
use Rattle.catalogue.specs.Runs.{Asked, Calls, next_name}
use Rattle.catalogue.specs.Stores.{CatalogueView}
use Rattle.catalogue.specs.declared.store.Prefer.{Prefer}
use Rattle.resolver.specs.declared.inputs.Inputs.{Inputs}
use Rattle.resolver.specs.declared.inputs.Request.{Request}
use Rattle.manifest.specs.declared.fault.ManifestFault.TheVariants as manifest
use Rattle.lockfile.specs.declared.fault.LockFault.TheVariants as lock
use Rattle.catalogue.specs.declared.fault.LoadFault.TheVariants as load
use Rattle.derivations.specs.declared.fault.DerivationFault.TheVariants as derivation
use Rattle.resolver.specs.declared.fault.Fault.TheVariants as fault
use Rattle.resolver.specs.declared.fault.TooLarge.TheVariants as large

-- ---- The faults of a run: want of memory, and what is wrong with an input as a fault of the run that read it.

abbrev pub input_wants_memory : Fault → Bool
input_wants_memory fault.OutOfMemory = true
input_wants_memory _ = false

-- what is wrong with the manifest, as a fault of a run
abbrev pub of_manifest : ManifestFault → Fault
of_manifest manifest.OutOfMemory = fault.OutOfMemory
of_manifest manifest.TooLarge = fault.TooLarge large.Manifest
of_manifest manifest.NotToml = fault.ManifestNotToml
of_manifest (manifest.Shape part) = fault.ManifestShape part
of_manifest (manifest.UnsupportedSource kind) = fault.UnsupportedSource kind
of_manifest (manifest.BadRequirement name) = fault.BadRequirement name
of_manifest (manifest.RootFeature f name) = fault.RootFeature f name

-- what is wrong with the old lock
abbrev pub of_lock : LockFault → Fault
of_lock lock.OutOfMemory = fault.OutOfMemory
of_lock lock.TooLarge = fault.TooLarge large.Lock
of_lock lock.NotToml = fault.LockNotToml
of_lock lock.LockVersion = fault.LockVersion
of_lock lock.LockShape = fault.LockShape

-- what is wrong with the index
abbrev pub of_load : LoadFault → Fault
of_load load.OutOfMemory = fault.OutOfMemory
of_load (load.FolderFailed path) = fault.FolderFailed path
of_load (load.TooLarge limit) = fault.TooLarge (large.Index limit)
of_load (load.ChecksumChanged name version) = fault.ChecksumChanged name version

-- what is wrong with our own bytes, where they don't read
abbrev pub not_read_back : LockFault → Fault
not_read_back lock.OutOfMemory = fault.OutOfMemory
not_read_back _ = fault.NotReadBack

-- what is wrong with the bytes of a derivation
abbrev pub of_derivation : DerivationFault → CheckFault
of_derivation derivation.OutOfMemory = Input fault.OutOfMemory
of_derivation (derivation.NotALine line) = Proof (derivation.NotALine line)
of_derivation (derivation.Forward line) = Proof (derivation.Forward line)
of_derivation (derivation.TooMany line) = Proof (derivation.TooMany line)

-- ---- What is read.

-- what a call is given, but for the folder
pub record RequestView : Type 0 where
  pub manifest : List ℕ
  pub old : Option (List ℕ)
  pub source : List ℕ
  pub prefer : Prefer

abbrev pub request_view : Request → RequestView
request_view r =
    record { manifest = r.manifest.now; old = option_copied r.old; source = r.source.now; prefer = r.prefer }

-- what the old lock says, if there is one
abbrev pub old_of_bytes : Option (List ℕ) → Result (Option Content) LockFault
old_of_bytes None = Ok None
old_of_bytes (Some bytes) = content_of_bytes bytes >>= λ content. Ok (Some content)

-- what a selection is held against
abbrev pub problem_of : Inputs → Problem
problem_of inputs = problem_in inputs.manifest inputs.catalogue

-- the names that were asked for, in order
abbrev pub names_of : Inputs → List (List ℕ)
names_of inputs = map (λ row. row.0) (inputs.catalogue).rows

module _ {S : Type 0} (calls : Calls S) (failed : S → ℕ) (request : RequestView) (before : S) where
  -- how loading ends for this manifest and this old lock
  abbrev pub LoadsFor : ManifestView → Option Content → Result CatalogueView LoadFault → S → Type 0
  LoadsFor m old = Loads (packages_if old) request.source
      (rust_for request.prefer m.rust_version) m.brings.dependencies calls failed before

  -- the folder was asked for these names so far, in order
  abbrev pub IsSoFarFor : ManifestView → Option Content → List Asked → S → Type 0
  IsSoFarFor m old = IsSoFar (packages_if old) request.source
      (rust_for request.prefer m.rust_version) m.brings.dependencies calls before

  -- the manifest and the old lock say this, and the folder's answers give this index
  pub record AreRead (inputs : Inputs) (after : S) : Type 0 where
    pub manifest_says : manifest_of_bytes request.manifest ≡ Ok inputs.manifest
    pub lock_says : old_of_bytes request.old ≡ Ok inputs.old
    pub loads : LoadsFor inputs.manifest inputs.old (Ok inputs.catalogue) after

  -- the manifest has a fault; the old lock has one, after it; loading ends with a fault, after both
  pub data IsInputFault : Fault → S → Type 0 where
    by_manifest : (e : ManifestFault) → manifest_of_bytes request.manifest ≡ Err e → IsInputFault (of_manifest e) before
    by_lock : (m : ManifestView) (e : LockFault) → manifest_of_bytes request.manifest ≡ Ok m
        → old_of_bytes request.old ≡ Err e → IsInputFault (of_lock e) before
    by_index : (m : ManifestView) (old : Option Content) (e : LoadFault) (after : S)
        → manifest_of_bytes request.manifest ≡ Ok m
        → old_of_bytes request.old ≡ Ok old → LoadsFor m old (Err e) after → IsInputFault (of_load e) after

  -- what is left of the folder where memory was wanting, and the names that it was asked for until then, in order
  pub data IsCutShort : List (List ℕ) → S → Type 0 where
    -- it wasn't asked
    before_loading : IsCutShort [] before
    -- it was asked for the names so far
    while_loading : (m : ManifestView) (old : Option Content) (asked : List Asked) (after : S)
        → manifest_of_bytes request.manifest ≡ Ok m
        → old_of_bytes request.old ≡ Ok old → IsSoFarFor m old asked after → IsCutShort (names_in asked) after
    -- it was asked for the names so far, and perhaps for the next one, which stands last
    while_asking : (m : ManifestView) (old : Option Content) (asked : List Asked) (mid : S) (name : List ℕ) (after : S)
        → manifest_of_bytes request.manifest ≡ Ok m
        → old_of_bytes request.old ≡ Ok old → IsSoFarFor m old asked mid
        → next_name (packages_if old) request.source m.brings.dependencies asked ≡ Some name
        → length asked < most_names → IsAskedAtMost calls mid name after
        → IsCutShort (names_in asked ++ name ∷ []) after
    -- it was asked for all
    after_loading : (inputs : Inputs) (after : S) → AreRead inputs after → IsCutShort (names_of inputs) after

  -- how a call ends with a fault: where memory was wanting that says only what the folder was asked for, and what is
  -- left of it
  abbrev pub EndsWith : Bool → Type 0 → S → Type 0
  EndsWith true says after = (names : List (List ℕ)) × IsCutShort names after
  EndsWith false says after = says

  -- reading all inputs gives them, or the first fault
  abbrev pub ReadsInputs : Result Inputs Fault → S → Type 0
  ReadsInputs (Ok inputs) after = AreRead inputs after
  ReadsInputs (Err f) after = EndsWith (input_wants_memory f) (IsInputFault f after) after

-- where no folder is asked, want of memory says nothing
abbrev pub UnlessMemory : Bool → Type 0 → Type 0
UnlessMemory true says = Unit {0}
UnlessMemory false says = says
