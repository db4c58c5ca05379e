-- A run over a map of files ends without a fault but for want of memory, where each name that comes next was asked for
-- in a whole run.
use Rattle.std.proofs.Common.{◌≡◌, ℕ, ◌<◌, ◌≤◌, true, List, length, Option, Some, None, IsSomeAnd, Ok, Err, refl, sym}
use Rattle.std.proofs.Common.{ap, ◌∙◌, subst, arith}
use Rattle.semver.specs.Identifiers.{parts_of}
use Rattle.model.specs.Content.{Content, Package}
use Rattle.model.specs.Candidates.{RustVersion}
use Rattle.model.specs.Summary.{Dependency}
use Rattle.index_reader.specs.Folders.{Files, MemoryCalls, file_at, path_of}
use Rattle.catalogue.specs.Runs.{Asked, next_name}
use Rattle.catalogue.specs.Loads.{IsWithin, Fails, IsSoFar, IsLoaded, HasTooMany, HasFailed, Loads, first_changed}
use Rattle.catalogue.specs.Loads.{most_names}
use Rattle.catalogue.specs.Stores.{CatalogueView}
use Rattle.catalogue.specs.declared.fault.LoadFault.{LoadFault}
use Rattle.catalogue.specs.declared.fault.LoadFault.TheVariants as fault
use Rattle.catalogue.specs.declared.fault.Limit.{Limit}
use Rattle.catalogue.specs.declared.fault.Limit.TheVariants as limit
use Rattle.resolver.specs.Inputs.{input_wants_memory, of_load}
use Rattle.resolver.proofs.Stays.{chain-stays}

module _ (folder : Files) (failed : Files → ℕ) (old : Content) (source : List ℕ) (rust : Option RustVersion)
    (root : List Dependency) (whole : List Asked) (few : length whole ≤ most_names)
    (fits : (asked : List Asked) (mid : Files) (name : List ℕ)
    → IsSoFar old source rust root MemoryCalls folder asked mid → next_name old source root asked ≡ Some name
    → (length asked < length whole) × IsWithin (file_at folder (path_of name)))
    (checked : (index : CatalogueView) (after : Files) → IsLoaded old source rust root MemoryCalls folder index after
    → first_changed index old ≡ None) where
  -- what the folder answers for a name is within the limits
  within : (asked : List Asked) (mid : Files) (name : List ℕ) (o : Option (List ℕ)) (later : Files)
      → IsSoFar old source rust root MemoryCalls folder asked mid
      → next_name old source root asked ≡ Some name → MemoryCalls mid (path_of name) (Ok o) later → IsWithin o
  within asked mid name o later so_far next call =
      subst IsWithin (sym (call.0 ∙ ap (λ f. file_at f (path_of name)) (chain-stays asked folder mid so_far.chain)))
      (fits asked mid name so_far next).1

  few-enough : (later : Files) → HasTooMany old source rust root MemoryCalls folder later → ⊥
  few-enough later h =
      let fewer = (fits h.asked later h.name h.so_far h.next).0 in
      let most = h.most in
      omega (arith, fewer, few, most)

  within-limits : (which : Limit) (later : Files)
      → HasFailed old source rust root MemoryCalls failed folder (fault.TooLarge which) later → ⊥
  within-limits which later h = by which h.fails
    where
      by : (which : Limit) → Fails MemoryCalls failed h.mid h.name (fault.TooLarge which) later → ⊥
      by limit.Names (bytes, call, past) = past
      by (limit.File n) (bytes, call, (same, many)) =
          let fit = (within h.asked h.mid h.name (Some bytes) later h.so_far h.next call).0 in omega (arith, fit, many)
      by (limit.Lines n) (bytes, call, (same, short, many)) =
          let fit = (within h.asked h.mid h.name (Some bytes) later h.so_far h.next call).1 in omega (arith, fit, many)

  pub no_fault : (e : LoadFault) (later : Files) → Loads old source rust root MemoryCalls failed folder (Err e) later
      → input_wants_memory (of_load e) ≡ true
  no_fault fault.OutOfMemory later l = refl
  no_fault (fault.FolderFailed path) later l = absurd l.fails.1
  no_fault (fault.TooLarge limit.Names) later l = absurd (few-enough later l)
  no_fault (fault.TooLarge (limit.File n)) later l = absurd (within-limits (limit.File n) later l)
  no_fault (fault.TooLarge (limit.Lines n)) later l = absurd (within-limits (limit.Lines n) later l)
  no_fault (fault.ChecksumChanged n v) later (index, loaded, changed) =
      absurd (subst (λ (o : Option Package). IsSomeAnd o (λ p. (n ≡ p.name) × (parts_of v ≡ p.version)))
      (checked index later loaded) changed)
