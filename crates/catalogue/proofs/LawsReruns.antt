-- A run over the same index with a valid selection as its old lock comes to an end.
use Rattle.std.proofs.Common.{◌≡◌, ℕ, zero, suc, ◌+◌, ◌<◌, ◌≤◌, List, [], ◌∷◌, ◌++◌, length, Contains, Option, Some}
use Rattle.std.proofs.Common.{None, refl, subst, subst₂, arith}
use Rattle.std.specs.List.{All}
use Rattle.std.proofs.lemmas.List.{length-append, length-map}
use Rattle.std.proofs.lemmas.List.Elements.{All-append}
use Rattle.model.specs.Summary.{Dependency}
use Rattle.model.specs.Content.{Content}
use Rattle.model.specs.Selection.{IsValidSelection}
use Rattle.model.proofs.Lists.{in_none, in_map, to_map, all_none, all_cons}
use Rattle.manifest.specs.Manifests.{ManifestView}
use Rattle.catalogue.specs.Runs.{Asked, next_name, AreNext}
use Rattle.catalogue.specs.Problems.{IsRunOver, names_in, problem_of}
use Rattle.catalogue.proofs.LawsCandidates.{file_of}
use Rattle.catalogue.proofs.LawsFewer.{next_asked, known_more}
use Rattle.catalogue.proofs.LawsLists.{distinct-within}
use Rattle.catalogue.proofs.LawsNames.{asked-distinct, turn-more}

module _ (files : List ℕ → Option (List ℕ)) (manifest : ManifestView) (old : Content) (source : List ℕ)
    (asked : List Asked) (content : Content)
    (run : IsRunOver files manifest old source asked)
    (valid : IsValidSelection (problem_of manifest old source asked) content) where
  abbrev needs : List Dependency
  needs = manifest.brings.dependencies

  -- a run so far, whose names the first run has asked for
  record IsBegun (so_far : List Asked) : Type 0 where
    answers : All (λ a. a.1 ≡ files a.0) so_far
    in_turn : AreNext content source needs [] so_far
    known : (a : Asked) → Contains so_far a → Contains asked a

  begun-within : (so_far : List Asked) → IsBegun so_far → length so_far ≤ length asked
  begun-within so_far b =
      subst₂ (λ m n. m ≤ n) (length-map so_far (λ (a : Asked). a.0)) (length-map asked (λ (a : Asked). a.0))
      (distinct-within (names_in so_far) (names_in asked) (asked-distinct content source needs so_far b.in_turn) names)
    where
      names : (name : List ℕ) → Contains (names_in so_far) name → Contains (names_in asked) name
      names name c =
          let i = in_map (λ (a : Asked). a.0) so_far name c in
          subst (λ x. Contains (names_in asked) x) i.2 (to_map (λ (a : Asked). a.0) asked i.0 (b.known i.0 i.1))

  begun-more : (so_far : List Asked) (name : List ℕ) → IsBegun so_far
      → next_name content source needs so_far ≡ Some name → IsBegun (so_far ++ file_of files name ∷ [])
  begun-more so_far name b next = record {
    answers = All-append (λ a. a.1 ≡ files a.0) so_far (file_of files name ∷ []) b.answers (all_cons (λ (a : Asked). a.1
        ≡ files a.0) (file_of files name) [] refl (all_none (λ (a : Asked). a.1 ≡ files a.0)));
    in_turn = turn-more content source needs [] so_far (file_of files name) b.in_turn next;
    known = known_more files manifest old source asked content run valid so_far name b.known
        (next_asked files manifest old source asked content run valid so_far name b.known next);
  }

  abbrev Reruns : Type 0
  Reruns = (again : List Asked) × IsRunOver files manifest content source again × (length again ≤ length asked)

  goes_on : (left : ℕ) (so_far : List Asked) → IsBegun so_far → length asked < length so_far + left → Reruns
  goes_on zero so_far b lt = absurd (let within : length so_far ≤ length asked = begun-within so_far b in omega arith)
  goes_on (suc left) so_far b lt = by (next_name content source needs so_far) refl
      (λ more begun. goes_on left (so_far ++ more ∷ []) begun (let len : length (so_far ++ more ∷ [])
      ≡ length so_far + 1 = length-append so_far (more ∷ []) in omega arith))
    where
      by : (o : Option (List ℕ)) → next_name content source needs so_far ≡ o
          → ((more : Asked) → IsBegun (so_far ++ more ∷ []) → Reruns) → Reruns
      by None e rest = (so_far, record { answers = b.answers; in_turn = b.in_turn; ended = e }, begun-within so_far b)
      by (Some name) e rest = rest (file_of files name) (begun-more so_far name b e)

  -- the second run comes to an end
  pub runs_again : Reruns
  runs_again = goes_on (suc (length asked)) []
      (record {
        answers = all_none (λ (a : Asked). a.1 ≡ files a.0);
        in_turn = tt;
        known =
            λ a c. absurd (in_none a c);
      }) (omega arith)
