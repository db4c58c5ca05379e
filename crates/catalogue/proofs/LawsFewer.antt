-- A run over the same index with a valid selection as its old lock has no more candidates, and asks for no more names.
use Rattle.std.proofs.Common.{◌≡◌, ℕ, List, [], ◌∷◌, ◌++◌, Bool, true, false, not, ◌||◌, Contains, Option, Some}
use Rattle.std.proofs.Common.{is_some, refl, sym, ap, ◌∙◌, subst, inl, inr}
use Rattle.std.specs.List.{All}
use Rattle.std.proofs.lemmas.Bool.{or_left}
use Rattle.std.proofs.lemmas.List.Elements.{Contains-push_cases, All-contains}
use Rattle.semver.specs.Parse.{Parts}
use Rattle.model.specs.Summary.{Dependency}
use Rattle.model.specs.Content.{Candidate, Content, Package, Problem, candidates_of, is_root}
use Rattle.model.specs.Candidates.{Record, is_locked}
use Rattle.model.specs.Selection.{IsValidSelection}
use Rattle.model.proofs.Lists.{in_none, in_cons, all_first, all_rest}
use Rattle.model.proofs.Owners.{candidate_at-is, is_candidate, not_root}
use Rattle.model.proofs.Flat.{in_flat, to_flat}
use Rattle.manifest.specs.Manifests.{ManifestView}
use Rattle.catalogue.specs.Runs.{Asked, records_of, candidates_in, meant_by, needed_by, next_name, AreNext}
use Rattle.catalogue.specs.Problems.{IsRunOver, names_in, problem_of}
use Rattle.catalogue.proofs.LawsCandidates.{file_of, with_file, in_candidates, to_candidates, in_index}
use Rattle.catalogue.proofs.LawsNames.{needed-root, needed-asked, needed-cases, next-needed, all_asked}
use Rattle.catalogue.proofs.LawsPackages.{from_locked}
use Rattle.catalogue.proofs.LawsRecords.{each_record_once}

module _ (files : List ℕ → Option (List ℕ)) (manifest : ManifestView) (old : Content) (source : List ℕ)
    (asked : List Asked) (content : Content)
    (run : IsRunOver files manifest old source asked)
    (valid : IsValidSelection (problem_of manifest old source asked) content) where
  abbrev before : Problem
  before = problem_of manifest old source asked

  abbrev needs : List Dependency
  needs = manifest.brings.dependencies

  -- a locked version is a candidate of the first run
  was_candidate : (name : List ℕ) (v : Parts) → is_locked content source name v ≡ true
      → (r : Record) × Contains (candidates_in old source (file_of files name)) r × (r.version ≡ v)
  was_candidate name v h =
      let l = from_locked content source name v h in
      let p : Package = l.1 in
      let other : is_root before p ≡ false = not_root before p (ap is_some l.5) in
      let k = is_candidate before content valid l.0 p (l.2, other) in
      let found = candidate_at-is (candidates_of before.candidates p.name) p.version k.0 k.2 in
      let r = in_index old source files asked p.name k.0 run.answers found.0 in (
        r.0,
        subst (λ x. Contains (candidates_in old source (file_of files x)) r.0) l.3 r.1,
        ap (λ (c : Candidate). c.version) r.2 ∙ sym found.1 ∙ l.4,
      )

  -- the second run has no other candidates
  fewer : (name : List ℕ) (r : Record) → Contains (candidates_in content source (file_of files name)) r
      → Contains (candidates_in old source (file_of files name)) r
  fewer name r c =
      let h = in_candidates content source (file_of files name) r c in
      by h.0 (r.yanked) refl h.1
    where
      by : Contains (records_of (file_of files name)) r → (b : Bool) → r.yanked ≡ b
          → (not b || is_locked content source name r.version) ≡ true
          → Contains (candidates_in old source (file_of files name)) r
      by i false e h = to_candidates old source (file_of files name) r i
          (or_left (not r.yanked) (is_locked old source name r.version) (ap not e))
      by i true e h =
          let w = was_candidate name r.version h in
          let was = in_candidates old source (file_of files name) w.0 w.1 in
          subst (λ x. Contains (candidates_in old source (file_of files name)) x)
          (each_record_once (file_of files name) w.0 r was.0 i w.2) w.1

  fewer_needed : (a : Asked) (name : List ℕ) → a.1 ≡ files a.0 → Contains (needed_by content source a) name
      → Contains (needed_by old source a) name
  fewer_needed a name file c =
      let means = λ (r : Record). meant_by (r.brings).dependencies in
      let i = in_flat means (candidates_in content source a) name c in
      let is : a ≡ file_of files a.0 = λ k. (a.0, file k) in
      let had : Contains (candidates_in old source a) i.0 =
      subst (λ (x : Asked). Contains (candidates_in old source x) i.0) (sym is)
      (fewer a.0 i.0 (subst (λ (x : Asked). Contains (candidates_in content source x) i.0) is i.1)) in
      to_flat means (candidates_in old source a) i.0 name had i.2

  -- what the second run asks for next the first has asked for too
  pub next_asked : (so_far : List Asked) (name : List ℕ) → ((a : Asked) → Contains so_far a → Contains asked a)
      → next_name content source needs so_far ≡ Some name → Contains (names_in asked) name
  next_asked so_far name known next = all_asked old source needs asked run.in_turn run.ended name
      (elim (needed-cases content source needs so_far name (next-needed content source needs so_far name next)) [
        | inl i ↦ needed-root old source needs asked name i
        | inr (a, i, c) ↦
            let had = known a i in
            needed-asked old source needs asked a name had
            (fewer_needed a name (All-contains (λ (a : Asked). a.1 ≡ files a.0) asked a run.answers had) c)
      ])

  pub known_more : (so_far : List Asked) (name : List ℕ) → ((a : Asked) → Contains so_far a → Contains asked a)
      → Contains (names_in asked) name
      → (a : Asked) → Contains (so_far ++ file_of files name ∷ []) a → Contains asked a
  known_more so_far name known named a c = elim (Contains-push_cases so_far (file_of files name) a c) [
    | inl i ↦ known a i
    | inr s ↦ subst (λ x. Contains asked x) s (with_file files asked name run.answers named)
  ]

  pub asked_before : (so_far later : List Asked) → ((a : Asked) → Contains so_far a → Contains asked a)
      → All (λ a. a.1 ≡ files a.0) later
      → AreNext content source needs so_far later → (name : List ℕ) → Contains (names_in later) name
      → Contains (names_in asked) name
  asked_before so_far [] known h turn name c = absurd (in_none name c)
  asked_before so_far (a ∷ later) known h turn name c = elim (in_cons a.0 name (names_in later) c) [
    | inl s ↦ subst (λ x. Contains (names_in asked) x) s first
    | inr c ↦ asked_before (so_far ++ a ∷ []) later more
        (all_rest (λ (a : Asked). a.1 ≡ files a.0) a later h) turn.1 name c
  ]
    where
      first : Contains (names_in asked) a.0
      first = next_asked so_far a.0 known turn.0

      more : (b : Asked) → Contains (so_far ++ a ∷ []) b → Contains asked b
      more = subst (λ x. (b : Asked) → Contains (so_far ++ x ∷ []) b → Contains asked b)
          (λ k. (a.0, sym (all_first (λ (a : Asked). a.1 ≡ files a.0) a later h) k)) (known_more so_far a.0 known first)

  -- each name of the second run was asked for in the first
  pub no_more : (again : List Asked) → IsRunOver files manifest content source again → (name : List ℕ)
      → Contains (names_in again) name → Contains (names_in asked) name
  no_more again rerun = asked_before [] again (λ a c. absurd (in_none a c)) rerun.answers rerun.in_turn
