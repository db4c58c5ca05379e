-- A lock that was given comes back where it is handed in as the old one, and is valid.
use Rattle.std.proofs.Common.{◌≡◌, ◌⊎◌, ◌↔◌, ℕ, Bool, true, false, List, Vec, Contains, Option, Some, Result, Ok, Err}
use Rattle.std.proofs.Common.{inl, inr, refl, sym, ap, ap₂, ◌∙◌, subst}
use Rattle.std.specs.declared.alloc.Global.{Global}
use Rattle.std.proofs.lemmas.List.Elements.{Contains-push_cases}
use Rattle.model.specs.Outcome.{◌>>=◌}
use Rattle.model.specs.Candidates.{RustVersion}
use Rattle.model.specs.Content.{Content, packages_if}
use Rattle.model.specs.Selection.{IsValidSelection}
use Rattle.model.proofs.Lists.{in_none}
use Rattle.manifest.specs.Manifests.{ManifestView, manifest_of_bytes}
use Rattle.index_reader.specs.Folders.{Files, MemoryCalls}
use Rattle.index_reader.specs.declared.skip.Skip.{Skip}
use Rattle.catalogue.specs.Loads.{rust_for}
use Rattle.catalogue.specs.Runs.{Asked, next_name}
use Rattle.catalogue.specs.Problems.{names_in, problem_in}
use Rattle.catalogue.specs.Stores.{CatalogueView}
use Rattle.catalogue.specs.declared.fault.LoadFault.{LoadFault}
use Rattle.catalogue.specs.declared.store.Prefer.{Prefer}
use Rattle.catalogue.specs.declared.store.Prefer.TheVariants.{Newest}
use Rattle.selection.specs.declared.verdict.Verdict.{Verdict}
use Rattle.vertices.proofs.Bound.{same-Ok, same-Some}
use Rattle.resolver.specs.Inputs.{input_wants_memory, RequestView, AreRead, IsInputFault, IsCutShort, IsSoFarFor}
use Rattle.resolver.specs.Inputs.{LoadsFor, EndsWith, names_of, old_of_bytes, problem_of}
use Rattle.resolver.specs.Inputs.IsInputFault.{by_manifest, by_lock, by_index}
use Rattle.resolver.specs.Inputs.IsCutShort.{before_loading, while_loading, while_asking, after_loading}
use Rattle.resolver.specs.Answers.{CanKeep, IsAnswer, IsAnswered, IsUnanswered, MeansSelection, Resolves, Verifies}
use Rattle.resolver.specs.Answers.IsAnswer.{kept_lock, new_lock, no_lock}
use Rattle.resolver.specs.inner.Returning.{handed_in, to_verify, ComesBack, FindsValid, IsSomeLock}
use Rattle.resolver.specs.declared.inputs.Inputs.{Inputs}
use Rattle.resolver.specs.declared.fault.Fault.{Fault}
use Rattle.resolver.specs.declared.resolving.Answer.{Answer}
use Rattle.resolver.specs.declared.resolving.Answer.TheVariants.{Lock, Unsolvable}
use Rattle.resolver.proofs.Again.{so-far-asked, next-asked, still-valid, unasked-more, no_other_fault}

pub ok-err : {Y E : Type 0} (r : Result Y E) (x : Y) (e : E) → r ≡ Ok x → r ≡ Err e → ⊥
ok-err r x e h k = let both : Ok x ≡ Err e = sym h ∙ k in cc

-- what an answer gives: of a lock bytes that mean a valid selection
abbrev IsGiven : Inputs → Answer → Type 0
IsGiven inputs (Lock bytes kept skips) = MeansSelection (problem_of inputs) bytes.items
IsGiven inputs (Unsolvable derivation text skips) = Unit {0}

given : (old : Option (List ℕ)) (inputs : Inputs) (answer : Answer) → IsAnswer old inputs answer → IsGiven inputs answer
given old inputs answer (kept_lock bytes skips own means skipped) = means
given old inputs answer (new_lock bytes skips content not_kept reads spelled chosen skipped) =
    record { content = content; reads = reads; valid = chosen.valid }
given old inputs answer (no_lock derivation text skips unsolvable explained skipped) = tt

module _ (failed : Files → ℕ) (folder : Files) (request : RequestView) (bytes : Vec ℕ Global) (kept : Bool)
    (skips : Vec Skip Global) (after : Files)
    (first : IsAnswered MemoryCalls failed request folder (Lock bytes kept skips) after) where
  abbrev manifest : ManifestView
  manifest = (first.inputs).manifest

  one : MeansSelection (problem_of first.inputs) bytes.items
  one = given request.old first.inputs (Lock bytes kept skips) first.is

  -- the second run has what the first gave as its old lock, whatever it prefers
  module _ (prefer : Prefer) where
    abbrev again : RequestView
    again = record request { old = Some bytes.items; prefer = prefer }

    abbrev rust : Option RustVersion
    rust = rust_for prefer manifest.rust_version

    old-is : old_of_bytes again.old ≡ Ok (Some one.content)
    old-is = ap (λ r. r >>= λ content. Ok (Some content)) one.reads

    -- how it loads
    loads-same : (m : ManifestView) (old : Option Content) (r : Result CatalogueView LoadFault) (later : Files)
        → m ≡ manifest → old ≡ Some one.content
        → LoadsFor MemoryCalls failed again folder m old r later
        → LoadsFor MemoryCalls failed again folder manifest (Some one.content) r later
    loads-same m old r later is held loads =
        subst (λ o. LoadsFor MemoryCalls failed again folder manifest o r later) held
        (subst (λ n. LoadsFor MemoryCalls failed again folder n old r later) is loads)

    -- what it has read
    module _ (inputs : Inputs) (later : Files) (read : AreRead MemoryCalls failed again folder inputs later) where
      manifest-is : inputs.manifest ≡ manifest
      manifest-is = same-Ok inputs.manifest manifest (sym read.manifest_says ∙ first.read.manifest_says)

      lock-is : inputs.old ≡ Some one.content
      lock-is = same-Ok inputs.old (Some one.content) (sym read.lock_says ∙ old-is)

      loads-is : LoadsFor MemoryCalls failed again folder manifest (Some one.content) (Ok inputs.catalogue) later
      loads-is = loads-same inputs.manifest inputs.old (Ok inputs.catalogue) later manifest-is lock-is read.loads

      valid-again : IsValidSelection (problem_of inputs) one.content
      valid-again = subst (λ n. IsValidSelection (problem_in n inputs.catalogue) one.content) (sym manifest-is)
          (still-valid folder failed manifest request.source (rust_for request.prefer manifest.rust_version)
          (packages_if (first.inputs).old)
          one.content
          (first.inputs).catalogue after first.read.loads.0 one.valid rust inputs.catalogue later loads-is.0)

      can-keep : CanKeep again.old inputs
      can-keep = (bytes.items, refl, record { content = one.content; reads = one.reads; valid = valid-again })

      no-more : (name : List ℕ) → Contains (names_of inputs) name → Contains (names_of first.inputs) name
      no-more = unasked-more folder failed manifest request.source (rust_for request.prefer manifest.rust_version)
          (packages_if (first.inputs).old)
          one.content (first.inputs).catalogue after first.read.loads.0 one.valid rust inputs.catalogue later loads-is.0

    -- no fault of an input is left
    refused : (f : Fault) (later : Files) → IsInputFault MemoryCalls failed again folder f later
        → input_wants_memory f ≡ true
    refused f later (by_manifest e h) =
        absurd (ok-err (manifest_of_bytes request.manifest) manifest e first.read.manifest_says h)
    refused f later (by_lock m e h k) = absurd (ok-err (old_of_bytes again.old) (Some one.content) e old-is k)
    refused f later (by_index m old e end h k l) =
        no_other_fault folder failed manifest request.source (rust_for request.prefer manifest.rust_version)
        (packages_if (first.inputs).old)
        one.content (first.inputs).catalogue after first.read.loads.0 one.valid rust e end
        (loads-same m old (Err e) end (same-Ok m manifest (sym h ∙ first.read.manifest_says))
        (same-Ok old (Some one.content) (sym k ∙ old-is)) l)

    -- no other name is asked for, where memory is wanting either
    so-far-same : (m : ManifestView) (old : Option Content) (asked : List Asked) (later : Files)
        → m ≡ manifest → old ≡ Some one.content
        → IsSoFarFor MemoryCalls failed again folder m old asked later
        → IsSoFarFor MemoryCalls failed again folder manifest (Some one.content) asked later
    so-far-same m old asked later is held so_far =
        subst (λ o. IsSoFarFor MemoryCalls failed again folder manifest o asked later) held
        (subst (λ n. IsSoFarFor MemoryCalls failed again folder n old asked later) is so_far)

    module _ (asked : List Asked) (mid : Files)
        (so_far : IsSoFarFor MemoryCalls failed again folder manifest (Some one.content) asked mid) where
      so-far-no-more : (name : List ℕ) → Contains (names_in asked) name → Contains (names_of first.inputs) name
      so-far-no-more name c = so-far-asked folder failed manifest request.source
          (rust_for request.prefer manifest.rust_version) (packages_if (first.inputs).old)
          one.content (first.inputs).catalogue after first.read.loads.0 one.valid rust asked mid so_far name c

      next-no-more : (name : List ℕ) → next_name one.content request.source manifest.brings.dependencies asked
          ≡ Some name → Contains (names_of first.inputs) name
      next-no-more name next = next-asked folder failed manifest request.source
          (rust_for request.prefer manifest.rust_version) (packages_if (first.inputs).old)
          one.content (first.inputs).catalogue after first.read.loads.0 one.valid rust asked mid so_far name next

    cut-no-more : (names : List (List ℕ)) (later : Files) → IsCutShort MemoryCalls failed again folder names later
        → (name : List ℕ) → Contains names name
        → Contains (names_of first.inputs) name
    cut-no-more names later before_loading name c = absurd (in_none name c)
    cut-no-more names later (while_loading m old asked end h k so_far) name c =
        so-far-no-more asked end
        (so-far-same m old asked end (same-Ok m manifest (sym h ∙ first.read.manifest_says))
        (same-Ok old (Some one.content) (sym k ∙ old-is)) so_far) name c
    cut-no-more names later (while_asking m old asked mid next-one end h k so_far next fewer asks) name c =
        let is : m ≡ manifest = same-Ok m manifest (sym h ∙ first.read.manifest_says) in
        let held : old ≡ Some one.content = same-Ok old (Some one.content) (sym k ∙ old-is) in
        let before = so-far-same m old asked mid is held so_far in
        elim (Contains-push_cases (names_in asked) next-one name c) [
          | inl i ↦ so-far-no-more asked mid before name i
          | inr s ↦ next-no-more asked mid before name
              (ap₂ (λ (n : ManifestView) o. next_name (packages_if o) request.source n.brings.dependencies asked)
              (sym is) (sym held) ∙ next ∙ ap Some s)
        ]
    cut-no-more names later (after_loading inputs end read) name c = no-more inputs end read name c

  comes : (result : Result Answer Fault) (later : Files)
      → Resolves MemoryCalls failed (again request.prefer) folder result later → ComesBack bytes.items result
  comes (Ok other) later second = by other second.is
    where
      can : CanKeep (Some bytes.items) second.inputs
      can = can-keep request.prefer second.inputs later second.read

      by : (other : Answer) → IsAnswer (Some bytes.items) second.inputs other → ComesBack bytes.items (Ok other)
      by other (kept_lock more skips' own means skipped) = (sym (same-Some own), refl)
      by other (new_lock more skips' content not_kept reads spelled chosen skipped) = absurd (not_kept can)
      by other (no_lock derivation text skips' unsolvable explained skipped) =
          absurd (unsolvable.none can.2.content can.2.valid)
  comes (Err f) later second = by (input_wants_memory f) refl second
    where
      by : (b : Bool) → input_wants_memory f ≡ b
          → EndsWith MemoryCalls failed (again request.prefer) folder b
          (IsInputFault MemoryCalls failed (again request.prefer) folder f later
          ⊎ IsUnanswered MemoryCalls failed (again request.prefer) folder f later) later
          → input_wants_memory f ≡ true
      by true e s = e
      by false e (inl r) = refused request.prefer f later r
      by false e (inr u) = absurd (u.not_kept (can-keep request.prefer u.inputs later u.read))

  verifies : (result : Result Verdict Fault) (later : Files)
      → Verifies MemoryCalls failed (again Newest) folder result later → FindsValid result
  verifies (Ok verdict) later second =
      let same : one.content ≡ second.content =
      same-Some (sym (lock-is Newest second.inputs later second.read) ∙ second.old) in
      second.selects.1 (subst (IsValidSelection (problem_of second.inputs)) same
      (valid-again Newest second.inputs later second.read))
  verifies (Err f) later second = by (input_wants_memory f) refl second
    where
      by : (b : Bool) → input_wants_memory f ≡ b → EndsWith MemoryCalls failed (again Newest) folder b
          (IsInputFault MemoryCalls failed (again Newest) folder f later) later → input_wants_memory f ≡ true
      by true e s = e
      by false e r = refused Newest f later r

pub comes_back : (failed : Files → ℕ) (folder : Files) (request : RequestView) (bytes : Vec ℕ Global) (kept : Bool)
    (skips : Vec Skip Global) (after : Files) (result : Result Answer Fault) (later : Files)
    → Resolves MemoryCalls failed request folder (Ok (Lock bytes kept skips)) after
    → Resolves MemoryCalls failed (handed_in request bytes.items) folder result later → ComesBack bytes.items result
comes_back failed folder request bytes kept skips after result later first second =
    comes failed folder request bytes kept skips after first result later second

pub no_more_asked : (failed : Files → ℕ) (folder : Files) (request : RequestView) (bytes : Vec ℕ Global) (kept : Bool)
    (skips : Vec Skip Global) (after : Files) (again : Answer) (later : Files)
    (first : IsAnswered MemoryCalls failed request folder (Lock bytes kept skips) after)
    (second : IsAnswered MemoryCalls failed (handed_in request bytes.items) folder again later)
    (name : List ℕ) → Contains (names_of second.inputs) name → Contains (names_of first.inputs) name
no_more_asked failed folder request bytes kept skips after other later first second =
    no-more failed folder request bytes kept skips after first request.prefer second.inputs later second.read

-- nor where memory is wanting
pub no_more_cut : (failed : Files → ℕ) (folder : Files) (request : RequestView) (bytes : Vec ℕ Global) (kept : Bool)
    (skips : Vec Skip Global) (after : Files) (names : List (List ℕ)) (later : Files)
    (first : IsAnswered MemoryCalls failed request folder (Lock bytes kept skips) after)
    (second : IsCutShort MemoryCalls failed (handed_in request bytes.items) folder names later)
    (name : List ℕ) → Contains names name → Contains (names_of first.inputs) name
no_more_cut failed folder request bytes kept skips after names later first second =
    cut-no-more failed folder request bytes kept skips after first request.prefer names later second

-- and it is valid
pub found_valid : (failed : Files → ℕ) (folder : Files) (request : RequestView) (bytes : Vec ℕ Global) (kept : Bool)
    (skips : Vec Skip Global) (after : Files) (result : Result Verdict Fault) (later : Files)
    → Resolves MemoryCalls failed request folder (Ok (Lock bytes kept skips)) after
    → Verifies MemoryCalls failed (to_verify request bytes.items) folder result later → FindsValid result
found_valid failed folder request bytes kept skips after result later first second =
    verifies failed folder request bytes kept skips after first result later second

-- an answer is a lock where there is a selection, and a refusal where there is none
pub locks_selected : (old : Option (List ℕ)) (inputs : Inputs) (answer : Answer) → IsAnswer old inputs answer
    → IsSomeLock answer ↔ ((content : Content) × IsValidSelection (problem_of inputs) content)
locks_selected old inputs answer (kept_lock bytes skips own means skipped) =
    (λ _. (means.content, means.valid), λ _. tt)
locks_selected old inputs answer (new_lock bytes skips content not_kept reads spelled chosen skipped) =
    (λ _. (content, chosen.valid), λ _. tt)
locks_selected old inputs answer (no_lock derivation text skips unsolvable explained skipped) =
    (λ no. absurd no, λ some. unsolvable.none some.0 some.1)
