-- A call leaves a folder in memory as it was, however it ends.
use Rattle.std.proofs.Common.{◌≡◌, ◌⊎◌, ℕ, Bool, true, false, List, [], ◌∷◌, Option, Result, Ok, Err, inl, inr, refl}
use Rattle.std.proofs.Common.{◌∙◌}
use Rattle.model.specs.Content.{Content, packages_if}
use Rattle.model.specs.Candidates.{RustVersion}
use Rattle.model.specs.Summary.{Dependency}
use Rattle.manifest.specs.Manifests.{ManifestView}
use Rattle.index_reader.specs.Folders as folders
use Rattle.index_reader.specs.Folders.{Files, MemoryCalls, path_of}
use Rattle.index_reader.specs.declared.folder.FolderFault.TheVariants.{OutOfMemory, Failed}
use Rattle.catalogue.specs.Runs.{Asked, Chain}
use Rattle.catalogue.specs.Loads.{Fails, IsAskedAtMost, HasFailed, Loads, rust_for}
use Rattle.catalogue.specs.Stores.{CatalogueView}
use Rattle.catalogue.specs.declared.fault.LoadFault.{LoadFault}
use Rattle.catalogue.specs.declared.fault.LoadFault.TheVariants as load
use Rattle.catalogue.specs.declared.fault.Limit.TheVariants as limit
use Rattle.selection.specs.declared.verdict.Verdict.{Verdict}
use Rattle.checker.specs.declared.outcome.Check.{Check}
use Rattle.resolver.specs.Inputs.{input_wants_memory, RequestView, AreRead, IsInputFault, IsCutShort, EndsWith}
use Rattle.resolver.specs.Inputs.{LoadsFor}
use Rattle.resolver.specs.Inputs.IsInputFault.{by_manifest, by_lock, by_index}
use Rattle.resolver.specs.Inputs.IsCutShort.{before_loading, while_loading, while_asking, after_loading}
use Rattle.resolver.specs.Answers.{IsUnanswered, Resolves, Verifies}
use Rattle.resolver.specs.CheckedProofs.{Checks}
use Rattle.resolver.specs.declared.inputs.Inputs.{Inputs}
use Rattle.resolver.specs.declared.fault.Fault.{Fault}
use Rattle.resolver.specs.declared.fault.CheckFault.{CheckFault}
use Rattle.resolver.specs.declared.fault.CheckFault.TheVariants.{Input, Proof}
use Rattle.resolver.specs.declared.resolving.Answer.{Answer}

pub chain-stays : (asked : List Asked) (before after : Files) → Chain MemoryCalls before asked after → after ≡ before
chain-stays [] before after chain = chain
chain-stays (a ∷ asked) before after (mid, call, chain) = chain-stays asked mid after chain ∙ call.1

call-stays : (before : Files) (path : List ℕ) (answer : folders.Answer) (after : Files)
    → MemoryCalls before path answer after → after ≡ before
call-stays before path (Ok o) after call = call.1
call-stays before path (Err OutOfMemory) after call = call
call-stays before path (Err Failed) after call = absurd call

asked-stays : (before : Files) (name : List ℕ) (after : Files)
    → IsAskedAtMost MemoryCalls before name after → after ≡ before
asked-stays before name after (inl same) = same
asked-stays before name after (inr (answer, call)) = call-stays before (path_of name) answer after call

-- ---- loading

module _ (old : Content) (source : List ℕ) (rust : Option RustVersion) (root : List Dependency) (failed : Files → ℕ)
    (before after : Files) where
  fails-stays : (mid : Files) (name : List ℕ) (e : LoadFault) → Fails MemoryCalls failed mid name e after → after ≡ mid
  fails-stays mid name load.OutOfMemory f = asked-stays mid name after f
  fails-stays mid name (load.FolderFailed path) f = absurd f.1
  fails-stays mid name (load.TooLarge which) (bytes, call, past) = call.1
  fails-stays mid name (load.ChecksumChanged n v) f = absurd f

  stopped-stays : (e : LoadFault) → HasFailed old source rust root MemoryCalls failed before e after → after ≡ before
  stopped-stays e h = fails-stays h.mid h.name e h.fails ∙ chain-stays h.asked before h.mid h.so_far.chain

  load-stays : (r : Result CatalogueView LoadFault)
      → Loads old source rust root MemoryCalls failed before r after → after ≡ before
  load-stays (Ok index) l = chain-stays l.0.asked before after l.0.so_far.chain
  load-stays (Err load.OutOfMemory) (inl (asked, so_far)) = chain-stays asked before after so_far.chain
  load-stays (Err load.OutOfMemory) (inr h) = stopped-stays load.OutOfMemory h
  load-stays (Err (load.FolderFailed path)) h = stopped-stays (load.FolderFailed path) h
  load-stays (Err (load.TooLarge limit.Names)) h = chain-stays h.asked before after h.so_far.chain
  load-stays (Err (load.TooLarge (limit.File n))) h = stopped-stays (load.TooLarge (limit.File n)) h
  load-stays (Err (load.TooLarge (limit.Lines n))) h = stopped-stays (load.TooLarge (limit.Lines n)) h
  load-stays (Err (load.ChecksumChanged n v)) (index, loaded, changed) =
      chain-stays loaded.asked before after loaded.so_far.chain

-- ---- the calls

module _ (failed : Files → ℕ) (request : RequestView) (before : Files) where
  loads-stays : (m : ManifestView) (old : Option Content) (r : Result CatalogueView LoadFault) (after : Files)
      → LoadsFor MemoryCalls failed request before m old r after → after ≡ before
  loads-stays m old r after l = load-stays (packages_if old) request.source
      (rust_for request.prefer m.rust_version) m.brings.dependencies failed before after r l

  read-stays : (inputs : Inputs) (after : Files)
      → AreRead MemoryCalls failed request before inputs after → after ≡ before
  read-stays inputs after read = loads-stays inputs.manifest inputs.old (Ok inputs.catalogue) after read.loads

  refused-stays : (f : Fault) (after : Files) → IsInputFault MemoryCalls failed request before f after → after ≡ before
  refused-stays f after (by_manifest e h) = refl
  refused-stays f after (by_lock m e h k) = refl
  refused-stays f after (by_index m old e end h k l) = loads-stays m old (Err e) end l

  cut-stays : (names : List (List ℕ)) (after : Files)
      → IsCutShort MemoryCalls failed request before names after → after ≡ before
  cut-stays names after before_loading = refl
  cut-stays names after (while_loading m old asked end h k so_far) = chain-stays asked before end so_far.chain
  cut-stays names after (while_asking m old asked mid name end h k so_far next fewer asks) =
      asked-stays mid name end asks ∙ chain-stays asked before mid so_far.chain
  cut-stays names after (after_loading inputs end read) = read-stays inputs end read

  ended-stays : (b : Bool) (says : Type 0) (after : Files) → (says → after ≡ before)
      → EndsWith MemoryCalls failed request before b says after → after ≡ before
  ended-stays true says after h (names, cut) = cut-stays names after cut
  ended-stays false says after h end = h end

  pub resolve-stays : (result : Result Answer Fault) (after : Files)
      → Resolves MemoryCalls failed request before result after → after ≡ before
  resolve-stays (Ok answer) after h = read-stays h.inputs after h.read
  resolve-stays (Err f) after h =
      ended-stays (input_wants_memory f) (IsInputFault MemoryCalls failed request before f after
      ⊎ IsUnanswered MemoryCalls failed request before f after) after by h
    where
      by : IsInputFault MemoryCalls failed request before f after
          ⊎ IsUnanswered MemoryCalls failed request before f after → after ≡ before
      by (inl r) = refused-stays f after r
      by (inr u) = read-stays u.inputs after u.read

  pub verify-stays : (result : Result Verdict Fault) (after : Files)
      → Verifies MemoryCalls failed request before result after → after ≡ before
  verify-stays (Ok verdict) after h = read-stays h.inputs after h.read
  verify-stays (Err f) after h = ended-stays (input_wants_memory f)
      (IsInputFault MemoryCalls failed request before f after) after (refused-stays f after) h

  pub check-stays : (bytes : List ℕ) (result : Result Check CheckFault) (after : Files)
      → Checks MemoryCalls failed request bytes before result after → after ≡ before
  check-stays bytes (Ok check) after h = read-stays h.inputs after h.read
  check-stays bytes (Err (Input f)) after h = ended-stays (input_wants_memory f)
      (IsInputFault MemoryCalls failed request before f after) after (refused-stays f after) h
  check-stays bytes (Err (Proof fault)) after h = read-stays h.inputs after h.read
