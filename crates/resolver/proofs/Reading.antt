-- A fault of an input is the fault of the reading of all inputs.
use Rattle.std.proofs.Common.{◌≡◌, ℕ, List, [], ◌∷◌, ◌++◌, Option, Some, None, Result, Ok, Err, option_map, inl, inr}
use Rattle.std.proofs.Common.{refl, subst, ap, ◌∙◌}
use Rattle.std.specs.Borrow.{Bor}
use Rattle.catalogue.specs.Loads.{Loads, packages_of_old, rust_for}
use Rattle.catalogue.specs.Problems.{names_in}
use Rattle.catalogue.specs.Stores.{CatalogueView}
use Rattle.model.specs.Content.{Content, packages_if}
use Rattle.manifest.specs.Manifests.{ManifestView, manifest_of_bytes}
use Rattle.manifest.specs.Faults as manifests
use Rattle.manifest.specs.declared.fault.ManifestFault.{ManifestFault}
use Rattle.manifest.specs.declared.fault.ManifestFault.TheVariants as manifest
use Rattle.lockfile.specs.Locks as locks
use Rattle.lockfile.specs.declared.fault.LockFault.{LockFault}
use Rattle.lockfile.specs.declared.fault.LockFault.TheVariants as lock
use Rattle.catalogue.specs.Runs.{Calls}
use Rattle.catalogue.specs.declared.fault.LoadFault.{LoadFault}
use Rattle.catalogue.specs.declared.fault.LoadFault.TheVariants as load
use Rattle.model.specs.Outcome.{Faults}
use Rattle.resolver.specs.Inputs.{of_manifest, of_lock, of_load, RequestView, IsCutShort, ReadsInputs, LoadsFor}
use Rattle.resolver.specs.Inputs.{old_of_bytes}
use Rattle.resolver.specs.Inputs.IsInputFault.{by_manifest, by_lock, by_index}
use Rattle.resolver.specs.Inputs.IsCutShort.{before_loading, while_loading, while_asking}

-- the packages behind a reference to the old lock
packages_behind : (old : Option (Bor Content)) → packages_of_old old ≡ packages_if (option_map (λ c. c.now) old)
packages_behind None = refl
packages_behind (Some c) = refl

module _ {S : Type 0} (calls : Calls S) (failed : S → ℕ) (request : RequestView) (before : S) where
  pub manifest_refused : (e : ManifestFault) → Faults (manifests.wants_memory e) e (manifest_of_bytes request.manifest)
      → ReadsInputs calls failed request before (Err (of_manifest e)) before
  manifest_refused manifest.OutOfMemory f = ([], before_loading)
  manifest_refused manifest.TooLarge f = by_manifest manifest.TooLarge f
  manifest_refused manifest.NotToml f = by_manifest manifest.NotToml f
  manifest_refused (manifest.Shape part) f = by_manifest (manifest.Shape part) f
  manifest_refused (manifest.UnsupportedSource kind) f = by_manifest (manifest.UnsupportedSource kind) f
  manifest_refused (manifest.BadRequirement name) f = by_manifest (manifest.BadRequirement name) f
  manifest_refused (manifest.RootFeature fault name) f = by_manifest (manifest.RootFeature fault name) f

  pub lock_refused : (m : ManifestView) (e : LockFault) → manifest_of_bytes request.manifest ≡ Ok m
      → Faults (locks.wants_memory e) e (old_of_bytes request.old)
      → ReadsInputs calls failed request before (Err (of_lock e)) before
  lock_refused m lock.OutOfMemory h f = ([], before_loading)
  lock_refused m lock.TooLarge h f = by_lock m lock.TooLarge h f
  lock_refused m lock.NotToml h f = by_lock m lock.NotToml h f
  lock_refused m lock.LockVersion h f = by_lock m lock.LockVersion h f
  lock_refused m lock.LockShape h f = by_lock m lock.LockShape h f

  -- loading for which memory was wanting
  cut : (m : ManifestView) (old : Option Content) (after : S) → manifest_of_bytes request.manifest ≡ Ok m
      → old_of_bytes request.old ≡ Ok old
      → LoadsFor calls failed request before m old (Err load.OutOfMemory) after
      → (names : List (List ℕ)) × IsCutShort calls failed request before names after
  cut m old after h l (inl (asked, so_far)) = (names_in asked, while_loading m old asked after h l so_far)
  cut m old after h l (inr stop) = (
    names_in stop.asked ++ stop.name ∷ [],
    while_asking m old stop.asked stop.mid stop.name after h l stop.so_far stop.next stop.fewer stop.fails,
  )

  pub index_refused : (m : ManifestView) (old : Option Content) (e : LoadFault) (after : S)
      → manifest_of_bytes request.manifest ≡ Ok m
      → old_of_bytes request.old ≡ Ok old → LoadsFor calls failed request before m old (Err e) after
      → ReadsInputs calls failed request before (Err (of_load e)) after
  index_refused m old load.OutOfMemory after h l f = cut m old after h l f
  index_refused m old (load.FolderFailed path) after h l f = by_index m old (load.FolderFailed path) after h l f
  index_refused m old (load.TooLarge limit) after h l f = by_index m old (load.TooLarge limit) after h l f
  index_refused m old (load.ChecksumChanged name version) after h l f =
      by_index m old (load.ChecksumChanged name version) after h l f

  -- loading with a reference to the old lock
  pub loads_with : (m : ManifestView) (o : Option (Bor Content)) (old : Option Content)
      (r : Result CatalogueView LoadFault) (after : S) → option_map (λ c. c.now) o ≡ old
      → Loads (packages_of_old o) request.source (rust_for request.prefer m.rust_version) m.brings.dependencies calls
      failed before r after → LoadsFor calls failed request before m old r after
  loads_with m o old r after same l = subst
      (λ c. Loads c request.source (rust_for request.prefer m.rust_version) m.brings.dependencies calls failed before
      r after) (packages_behind o ∙ ap packages_if same) l
