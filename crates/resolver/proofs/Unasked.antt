-- A folder with the same files for the names that a run asked for is read as that run's was.
use Rattle.std.proofs.Common.{◌≡◌, ℕ, true, List, [], ◌∷◌, Contains, Option, Ok, refl, sym, ap, ◌∙◌, subst}
use Rattle.std.specs.List.{All}
use Rattle.std.proofs.lemmas.List.Elements.{All-contains}
use Rattle.model.specs.Candidates.{RustVersion}
use Rattle.model.proofs.Lists.{all_first, all_rest, to_map}
use Rattle.model.proofs.Members.{all_in}
use Rattle.index_reader.specs.Folders.{Files, MemoryCalls, file_at, path_of}
use Rattle.catalogue.specs.Loads.{IsLoaded, rust_for, store_of}
use Rattle.catalogue.specs.Runs.{Asked, Chain}
use Rattle.catalogue.proofs.LawsIndexes.{chain-answers}
use Rattle.vertices.proofs.Bound.{same-Ok}
use Rattle.resolver.specs.Inputs.{input_wants_memory, RequestView, AreRead, IsInputFault, names_of}
use Rattle.model.specs.Content.{packages_if}
use Rattle.resolver.specs.Answers.{IsAnswer, IsAnswered}
use Rattle.resolver.specs.inner.Returning.{AreAlike}
use Rattle.resolver.specs.declared.inputs.Inputs.{Inputs}
use Rattle.resolver.specs.declared.fault.Fault.{Fault}
use Rattle.resolver.specs.declared.resolving.Answer.{Answer}
use Rattle.resolver.proofs.Again.{rows-names}
use Rattle.resolver.proofs.Alike.{asked-same}
use Rattle.resolver.proofs.Refused.{loads-same, unrefused}

-- calls that a folder in memory answers as its map does are a chain
chain-of : (folder : Files) (asked : List Asked) → All (λ a. a.1 ≡ file_at folder (path_of a.0)) asked
    → Chain MemoryCalls folder asked folder
chain-of folder [] h = refl
chain-of folder (a ∷ asked) h = (
  folder,
  (all_first (λ (a : Asked). a.1 ≡ file_at folder (path_of a.0)) a asked h, refl),
  chain-of folder asked (all_rest (λ (a : Asked). a.1 ≡ file_at folder (path_of a.0)) a asked h),
)

module _ (failed : Files → ℕ) (folder other : Files) (request : RequestView) (inputs : Inputs) (after : Files)
    (read : AreRead MemoryCalls failed request folder inputs after)
    (alike : AreAlike (names_of inputs) folder other) where
  abbrev rust : Option RustVersion
  rust = rust_for request.prefer (inputs.manifest).rust_version

  abbrev loaded : IsLoaded (packages_if inputs.old) request.source rust
      (inputs.manifest).brings.dependencies MemoryCalls folder inputs.catalogue after
  loaded = read.loads.0

  -- what was asked for stands among the names
  named : (a : Asked) → Contains loaded.asked a → Contains (names_of inputs) a.0
  named a c = subst (λ ns. Contains ns a.0) (sym (rows-names (packages_if inputs.old) request.source rust
      inputs.manifest folder inputs.catalogue after loaded))
      (to_map (λ (a : Asked). a.0) loaded.asked a c)

  answers : All (λ a. a.1 ≡ file_at other (path_of a.0)) loaded.asked
  answers = all_in (λ (a : Asked). a.1 ≡ file_at other (path_of a.0)) loaded.asked (λ a c.
      All-contains (λ (a : Asked). a.1 ≡ file_at folder (path_of a.0)) loaded.asked a
      (chain-answers folder loaded.asked folder after refl loaded.so_far.chain) c ∙ sym (alike a.0 (named a c)))

  -- the other folder is read as the same
  pub read-there : AreRead MemoryCalls failed request other inputs other
  read-there = record {
    manifest_says = read.manifest_says;
    lock_says = read.lock_says;
    loads = (
      record {
        asked = loaded.asked;
        so_far = record {
          chain = chain-of other loaded.asked answers;
          in_turn = loaded.so_far.in_turn;
          within =
              loaded.so_far.within;
          few = loaded.so_far.few;
        };
        ended = loaded.ended;
        is = loaded.is;
      },
      read.loads.1,
    );
  }

  -- and as nothing else
  pub same-there : (again : Inputs) (later : Files)
      → AreRead MemoryCalls failed request other again later → again ≡ inputs
  unfolding read-there
  same-there again later second = λ k. record { manifest = manifest-is k; old = old-is k; catalogue = catalogue-is k }
    where
      manifest-is : again.manifest ≡ inputs.manifest
      manifest-is = same-Ok again.manifest inputs.manifest (sym second.manifest_says ∙ read.manifest_says)

      old-is : again.old ≡ inputs.old
      old-is = same-Ok again.old inputs.old (sym second.lock_says ∙ read.lock_says)

      there : IsLoaded (packages_if inputs.old) request.source rust
          (inputs.manifest).brings.dependencies MemoryCalls other again.catalogue later
      there = (loads-same failed other request inputs other read-there request.prefer again.manifest again.old
          (Ok again.catalogue) later manifest-is old-is second.loads).0

      catalogue-is : again.catalogue ≡ inputs.catalogue
      catalogue-is = there.is
          ∙ ap (store_of (packages_if inputs.old) request.source rust (inputs.manifest).brings.dependencies)
          (asked-same other inputs.manifest (packages_if inputs.old) request.source rust rust inputs.catalogue other
          read-there.loads.0 again.catalogue later there)
          ∙ sym loaded.is

  -- nor does it end with a fault of an input
  pub unrefused-there : (f : Fault) (later : Files) → IsInputFault MemoryCalls failed request other f later
      → input_wants_memory f ≡ true
  unrefused-there = unrefused failed other request inputs other read-there request.prefer

pub answered-there : (failed : Files → ℕ) (folder other : Files) (request : RequestView)
    (answer again : Answer) (after later : Files)
    (first : IsAnswered MemoryCalls failed request folder answer after) → AreAlike (names_of first.inputs) folder other
    → IsAnswered MemoryCalls failed request other again later → IsAnswer request.old first.inputs again
answered-there failed folder other request answer again after later first alike second =
    subst (λ i. IsAnswer request.old i again) (same-there failed folder other request first.inputs after first.read
    alike second.inputs later second.read) second.is
