-- A lock that is valid for a verdict stays a valid selection with another old lock, if that has what is yanked of it.
use Rattle.std.proofs.Common.{◌≡◌, ℕ, List, Option, Some, Ok, refl, sym, ap, ◌∙◌, subst}
use Rattle.model.specs.Candidates.{RustVersion}
use Rattle.model.specs.Content.{Content, packages_if}
use Rattle.model.specs.Outcome.{◌>>=◌}
use Rattle.model.specs.Selection.{IsValidSelection}
use Rattle.manifest.specs.Manifests.{ManifestView}
use Rattle.index_reader.specs.Folders.{Files, MemoryCalls}
use Rattle.lockfile.specs.Locks.{content_of_bytes}
use Rattle.catalogue.specs.Loads.{IsLoaded, rust_for}
use Rattle.catalogue.specs.Problems.{IsRunOver, KeepsYanked, problem_in}
use Rattle.catalogue.specs.Stores.{CatalogueView}
use Rattle.catalogue.specs.declared.store.Prefer.TheVariants.{Newest}
use Rattle.catalogue.proofs.LawsIndexes.{run-over}
use Rattle.catalogue.proofs.LawsSelections.{holds_still}
use Rattle.selection.specs.declared.verdict.Verdict.TheVariants.{Valid}
use Rattle.vertices.proofs.Bound.{same-Ok, same-Some}
use Rattle.resolver.specs.Answers.{IsAnswered, IsVerdictFor}
use Rattle.resolver.specs.Inputs.{RequestView, old_of_bytes, problem_of}
use Rattle.resolver.specs.inner.Returning.{IsSomeLock, files_of, to_verify}
use Rattle.resolver.specs.declared.resolving.Answer.{Answer}
use Rattle.resolver.proofs.Again.{problem-is}
use Rattle.resolver.proofs.Returned.{locks_selected}

module _ (folder : Files) (m : ManifestView) (source : List ℕ) where
  run : (old : Content) (rust : Option RustVersion) (index : CatalogueView) (after : Files)
      (loaded : IsLoaded old source rust m.brings.dependencies MemoryCalls folder index after)
      → IsRunOver (files_of folder) m old source loaded.asked
  run old rust index after loaded =
      run-over folder m old source loaded.asked after
      (record { chain = loaded.so_far.chain; in_turn = loaded.so_far.in_turn; ended = loaded.ended })

  -- in two runs over one map of files
  module _ (old : Content) (rust : Option RustVersion) (index : CatalogueView) (after : Files)
      (first : IsLoaded old source rust m.brings.dependencies MemoryCalls folder index after)
      (lock : Content) (rust' : Option RustVersion) (index' : CatalogueView) (later : Files)
      (second : IsLoaded lock source rust' m.brings.dependencies MemoryCalls folder index' later) where
    stays-valid : (content : Content) → IsValidSelection (problem_in m index) content
        → KeepsYanked (files_of folder) source content lock → IsValidSelection (problem_in m index') content
    stays-valid content valid keeps =
        subst (λ q. IsValidSelection q content) (sym (problem-is lock source rust' m folder index' later second))
        (holds_still (files_of folder) m old source first.asked content lock second.asked
        (run old rust index after first) (run lock rust' index' later second)
        (subst (λ q. IsValidSelection q content) (problem-is old source rust m folder index after first) valid) keeps)

module _ (failed : Files → ℕ) (folder : Files) (request : RequestView) (lock : List ℕ) (content : Content)
    (old : Option Content) (after : Files) (answer : Answer) (later : Files)
    (first : IsVerdictFor MemoryCalls failed (to_verify request lock) folder Valid after)
    (second : IsAnswered MemoryCalls failed request folder answer later)
    (reads : content_of_bytes lock ≡ Ok content) (old_says : old_of_bytes request.old ≡ Ok old)
    (keeps : KeepsYanked (files_of folder) request.source content (packages_if old)) where
  abbrev manifest : ManifestView
  manifest = (second.inputs).manifest

  manifest-is : (first.inputs).manifest ≡ manifest
  manifest-is = same-Ok (first.inputs).manifest manifest (sym first.read.manifest_says ∙ second.read.manifest_says)

  content-is : first.content ≡ content
  content-is = same-Some (sym first.old ∙ same-Ok (first.inputs).old (Some content)
      (sym first.read.lock_says ∙ ap (λ r. r >>= λ content. Ok (Some content)) reads))

  old-is : old ≡ (second.inputs).old
  old-is = same-Ok old (second.inputs).old (sym old_says ∙ second.read.lock_says)

  was-valid : IsValidSelection (problem_in manifest (first.inputs).catalogue) content
  was-valid = subst (IsValidSelection (problem_in manifest (first.inputs).catalogue)) content-is
      (subst (λ n. IsValidSelection (problem_in n (first.inputs).catalogue) first.content) manifest-is
      (first.selects.0 refl))

  is-valid : IsValidSelection (problem_of second.inputs) content
  is-valid = stays-valid folder manifest request.source (packages_if (first.inputs).old)
      (rust_for Newest manifest.rust_version) (first.inputs).catalogue after
      (subst (λ (n : ManifestView). IsLoaded (packages_if (first.inputs).old) request.source
      (rust_for Newest n.rust_version) n.brings.dependencies MemoryCalls folder (first.inputs).catalogue after)
      manifest-is first.read.loads.0)
      (packages_if (second.inputs).old) (rust_for request.prefer manifest.rust_version)
      (second.inputs).catalogue later second.read.loads.0
      content was-valid
      (subst (λ o. KeepsYanked (files_of folder) request.source content (packages_if o)) old-is keeps)

  pub gives-lock : IsSomeLock answer
  gives-lock = (locks_selected request.old second.inputs answer second.is).1 (content, is-valid)
