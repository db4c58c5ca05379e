-- A derivation that was given proves in a check over the same map of files.
use Rattle.std.proofs.Common.{◌≡◌, ℕ, Bool, true, false, List, Vec, Option, String, Result, Ok, Err, refl, sym, ap, ◌∙◌}
use Rattle.std.proofs.Common.{subst}
use Rattle.std.specs.declared.alloc.Global.{Global}
use Rattle.model.specs.Candidates.{RustVersion}
use Rattle.model.specs.Content.{Content, packages_if}
use Rattle.model.specs.Derivation.{IsAccepted, Step}
use Rattle.manifest.specs.Manifests.{ManifestView, manifest_of_bytes}
use Rattle.index_reader.specs.Folders.{Files, MemoryCalls}
use Rattle.index_reader.specs.declared.skip.Skip.{Skip}
use Rattle.catalogue.specs.Loads.{rust_for}
use Rattle.catalogue.specs.Problems.{problem_in}
use Rattle.catalogue.specs.Stores.{CatalogueView}
use Rattle.catalogue.specs.declared.fault.LoadFault.{LoadFault}
use Rattle.catalogue.specs.declared.store.Prefer.{Prefer}
use Rattle.catalogue.specs.declared.store.Prefer.TheVariants.{Newest}
use Rattle.derivations.specs.Files.{derivation_of_bytes}
use Rattle.checker.specs.declared.outcome.Check.{Check}
use Rattle.vertices.proofs.Bound.{same-Ok}
use Rattle.resolver.specs.Inputs.{input_wants_memory, RequestView, AreRead, IsInputFault, LoadsFor, EndsWith}
use Rattle.resolver.specs.Inputs.{old_of_bytes, problem_of}
use Rattle.resolver.specs.Inputs.IsInputFault.{by_manifest, by_lock, by_index}
use Rattle.resolver.specs.Answers.{IsAnswer, Resolves}
use Rattle.resolver.specs.Answers.IsAnswer.{kept_lock, new_lock, no_lock}
use Rattle.resolver.specs.CheckedProofs.{Checks}
use Rattle.resolver.specs.inner.Returning.{FindsProof, to_check}
use Rattle.resolver.specs.declared.inputs.Inputs.{Inputs}
use Rattle.resolver.specs.declared.fault.Fault.{Fault}
use Rattle.resolver.specs.declared.fault.CheckFault.{CheckFault}
use Rattle.resolver.specs.declared.fault.CheckFault.TheVariants.{Input, Proof}
use Rattle.resolver.specs.declared.resolving.Answer.{Answer}
use Rattle.resolver.specs.declared.resolving.Answer.TheVariants.{Lock, Unsolvable}
use Rattle.resolver.proofs.Alike.{same-problem, no_other_fault}
use Rattle.resolver.proofs.Returned.{ok-err}

-- what was read in the first run, and what a second one reads of the same request, whatever it prefers
module _ (failed : Files → ℕ) (folder : Files) (request : RequestView) (inputs : Inputs) (after : Files)
    (first : AreRead MemoryCalls failed request folder inputs after) (prefer : Prefer) where
  abbrev again : RequestView
  again = record request { prefer = prefer }

  abbrev manifest : ManifestView
  manifest = inputs.manifest

  abbrev rust : Prefer → Option RustVersion
  rust p = rust_for p manifest.rust_version

  pub loads-same : (m : ManifestView) (old : Option Content) (r : Result CatalogueView LoadFault) (later : Files)
      → m ≡ manifest → old ≡ inputs.old
      → LoadsFor MemoryCalls failed again folder m old r later
      → LoadsFor MemoryCalls failed again folder manifest inputs.old r later
  loads-same m old r later is held loads = subst (λ o. LoadsFor MemoryCalls failed again folder manifest o r later) held
      (subst (λ n. LoadsFor MemoryCalls failed again folder n old r later) is loads)

  -- the second is held against the same
  pub problem-same : (other : Inputs) (later : Files) → AreRead MemoryCalls failed again folder other later
      → problem_of other ≡ problem_of inputs
  problem-same other later read =
      let is : other.manifest ≡ manifest =
      same-Ok other.manifest manifest (sym read.manifest_says ∙ first.manifest_says) in
      let held : other.old ≡ inputs.old = same-Ok other.old inputs.old (sym read.lock_says ∙ first.lock_says) in
      let loads = loads-same other.manifest other.old (Ok other.catalogue) later is held read.loads in
      ap (λ m. problem_in m other.catalogue) is
      ∙ same-problem folder manifest (packages_if inputs.old) request.source (rust request.prefer)
      (rust prefer) inputs.catalogue after first.loads.0 other.catalogue later loads.0

  -- and no fault of an input is left
  pub unrefused : (f : Fault) (later : Files) → IsInputFault MemoryCalls failed again folder f later
      → input_wants_memory f ≡ true
  unrefused f later (by_manifest e h) =
      absurd (ok-err (manifest_of_bytes request.manifest) manifest e first.manifest_says h)
  unrefused f later (by_lock m e h k) = absurd (ok-err (old_of_bytes request.old) inputs.old e first.lock_says k)
  unrefused f later (by_index m old e end h k l) =
      no_other_fault folder manifest (packages_if inputs.old) request.source (rust request.prefer)
      (rust prefer) inputs.catalogue after first.loads.0 failed first.loads.1 e end
      (loads-same m old (Err e) end (same-Ok m manifest (sym h ∙ first.manifest_says))
      (same-Ok old inputs.old (sym k ∙ first.lock_says)) l)

-- the derivation of an answer is accepted, if it has one
abbrev AcceptsIn : Inputs → Answer → Type 0
AcceptsIn inputs (Lock bytes kept skips) = Unit {0}
AcceptsIn inputs (Unsolvable derivation text skips) = IsAccepted (problem_of inputs) derivation

accepted-in : (old : Option (List ℕ)) (inputs : Inputs) (answer : Answer) → IsAnswer old inputs answer
    → AcceptsIn inputs answer
accepted-in old inputs answer (kept_lock bytes skips own means skipped) = tt
accepted-in old inputs answer (new_lock bytes skips content not_kept reads spelled chosen skipped) = tt
accepted-in old inputs answer (no_lock derivation text skips unsolvable explained skipped) = unsolvable.accepted

pub proved : (failed : Files → ℕ) (folder : Files) (request : RequestView) (derivation : List Step)
    (text : String Global) (skips : Vec Skip Global) (after : Files)
    (bytes : List ℕ) (result : Result Check CheckFault) (later : Files)
    → Resolves MemoryCalls failed request folder (Ok (Unsolvable derivation text skips)) after
    → derivation_of_bytes bytes ≡ Ok derivation
    → Checks MemoryCalls failed (to_check request) bytes folder result later → FindsProof result
proved failed folder request derivation text skips after bytes (Ok check) later first reads second =
    let same =
    problem-same failed folder request first.inputs after first.read Newest second.inputs later second.read in
    second.checked.proves.1 (
      derivation,
      reads,
      subst (λ q. IsAccepted q derivation) (sym same)
          (accepted-in request.old first.inputs (Unsolvable derivation text skips) first.is),
    )
proved failed folder request derivation text skips after bytes (Err (Input f)) later first reads second =
    by (input_wants_memory f) refl second
  where
    by : (b : Bool) → input_wants_memory f ≡ b → EndsWith MemoryCalls failed (to_check request) folder b
        (IsInputFault MemoryCalls failed (to_check request) folder f later) later → input_wants_memory f ≡ true
    by true e s = e
    by false e r = unrefused failed folder request first.inputs after first.read Newest f later r
proved failed folder request derivation text skips after bytes (Err (Proof fault)) later first reads second =
    ok-err (derivation_of_bytes bytes) derivation fault reads (second.no_derivation).says
