-- Which candidates a name has in a run.
use Rattle.std.proofs.Common.{◌≡◌, ℕ, List, [], ◌∷◌, map, filter, Bool, true, false, cond, Contains, Option, refl, sym}
use Rattle.std.proofs.Common.{ap, ◌∙◌, subst, inl, inr, true≢false}
use Rattle.std.specs.List.{All}
use Rattle.std.proofs.lemmas.List.Sorted.{IsPermutation-sym, Contains-permutation}
use Rattle.std.proofs.lemmas.List.Elements.{All-contains}
use Rattle.model.specs.Summary.{same_text}
use Rattle.model.specs.Content.{Candidate, Content, candidates_of}
use Rattle.model.specs.Candidates.{Record, as_candidate, is_locked, may_be_locked, oldest_first}
use Rattle.model.proofs.Same.{text-same, text-refl}
use Rattle.model.proofs.Lists.{in_none, in_cons, in_first, in_rest, in_filter, to_filter, in_map, to_map, all_first}
use Rattle.model.proofs.Lists.{all_rest}
use Rattle.model.proofs.Candidates.{oldest_first-permutes}
use Rattle.catalogue.specs.Runs.{Asked, records_of, candidates_in}
use Rattle.catalogue.specs.Problems.{names_in, candidates_by_name}

abbrev pub file_of : (List ℕ → Option (List ℕ)) → List ℕ → Asked
file_of files name = (name, files name)

-- over a fixed index each name has its file
pub with_file : (files : List ℕ → Option (List ℕ)) (asked : List Asked) (name : List ℕ)
    → All (λ a. a.1 ≡ files a.0) asked → Contains (names_in asked) name → Contains asked (name, files name)
with_file files asked name h c =
    let i = in_map (λ (x : Asked). x.0) asked name c in
    let is : i.0 ≡ (name, files name) =
    λ k. (i.2 k, (All-contains (λ (a : Asked). a.1 ≡ files a.0) asked i.0 h i.1 ∙ ap files i.2) k) in
    subst (λ x. Contains asked x) is i.1

module _ (old : Content) (source : List ℕ) where
  -- a candidate is a record that may be locked
  pub in_candidates : (a : Asked) (r : Record) → Contains (candidates_in old source a) r
      → Contains (records_of a) r × (may_be_locked (is_locked old source a.0) r ≡ true)
  in_candidates a r c =
      let test = may_be_locked (is_locked old source a.0) in
      let kept : List Record = filter test (records_of a) in
      in_filter test (records_of a) r (Contains-permutation (oldest_first kept) kept r
      (IsPermutation-sym kept (oldest_first kept) (oldest_first-permutes kept)) c)

  pub to_candidates : (a : Asked) (r : Record) → Contains (records_of a) r
      → may_be_locked (is_locked old source a.0) r ≡ true → Contains (candidates_in old source a) r
  to_candidates a r c h =
      let test = may_be_locked (is_locked old source a.0) in
      let kept : List Record = filter test (records_of a) in
      Contains-permutation kept (oldest_first kept) r (oldest_first-permutes kept) (to_filter test (records_of a) r c h)

  -- a name with candidates was asked for
  pub in_asked : (asked : List Asked) (name : List ℕ) (c : Candidate)
      → Contains (candidates_of (candidates_by_name old source asked) name) c → Contains (names_in asked) name
  in_asked [] name c i = absurd (in_none c i)
  in_asked (a ∷ asked) name c i = by (in_asked asked name c) (same_text name a.0) refl i
    where
      by : (Contains (candidates_of (candidates_by_name old source asked) name) c → Contains (names_in asked) name)
          → (b : Bool) → same_text name a.0 ≡ b
          → Contains (cond b (map as_candidate (candidates_in old source a))
          (candidates_of (candidates_by_name old source asked) name)) c → Contains (names_in (a ∷ asked)) name
      by rest true e i =
          subst (λ x. Contains (names_in (a ∷ asked)) x) (sym (text-same name a.0 e)) (in_first a.0 (names_in asked))
      by rest false e i = in_rest a.0 name (names_in asked) (rest i)

  -- over a fixed index a name has the candidates of its file
  module _ (files : List ℕ → Option (List ℕ)) where
    pub candidates-are : (asked : List Asked) (name : List ℕ) → All (λ a. a.1 ≡ files a.0) asked
        → Contains (names_in asked) name
        → candidates_of (candidates_by_name old source asked) name
        ≡ map as_candidate (candidates_in old source (name, files name))
    candidates-are [] name h i = absurd (in_none name i)
    candidates-are (a ∷ asked) name h i =
        by (candidates-are asked name (all_rest (λ (a : Asked). a.1 ≡ files a.0) a asked h)) (same_text name a.0) refl
      where
        is : name ≡ a.0 → a ≡ (name, files name)
        is e =
            let file : a.1 ≡ files name = all_first (λ (a : Asked). a.1 ≡ files a.0) a asked h ∙ ap files (sym e) in
            λ k. (sym e k, file k)

        by : (Contains (names_in asked) name → candidates_of (candidates_by_name old source asked) name
            ≡ map as_candidate (candidates_in old source (name, files name)))
            → (b : Bool) → same_text name a.0 ≡ b
            → cond b (map as_candidate (candidates_in old source a))
            (candidates_of (candidates_by_name old source asked) name)
            ≡ map as_candidate (candidates_in old source (name, files name))
        by rest true e = ap (λ (x : Asked). map as_candidate (candidates_in old source x)) (is (text-same name a.0 e))
        by rest false e = elim (in_cons a.0 name (names_in asked) i) [
          | inl s ↦ absurd (true≢false (sym (text-refl name) ∙ ap (same_text name) (sym s) ∙ e))
          | inr c ↦ rest c
        ]

    -- each of them is a record
    pub in_index : (asked : List Asked) (name : List ℕ) (c : Candidate) → All (λ a. a.1 ≡ files a.0) asked
        → Contains (candidates_of (candidates_by_name old source asked) name) c
        → (r : Record) × Contains (candidates_in old source (name, files name)) r × (as_candidate r ≡ c)
    in_index asked name c h i =
        in_map as_candidate (candidates_in old source (name, files name)) c
        (subst (λ cs. Contains cs c) (candidates-are asked name h (in_asked asked name c i)) i)

    pub to_index : (asked : List Asked) (name : List ℕ) (r : Record) → All (λ a. a.1 ≡ files a.0) asked
        → Contains (names_in asked) name
        → Contains (candidates_in old source (name, files name)) r
        → Contains (candidates_of (candidates_by_name old source asked) name) (as_candidate r)
    to_index asked name r h named i =
        subst (λ cs. Contains cs (as_candidate r)) (sym (candidates-are asked name h named))
        (to_map as_candidate (candidates_in old source (name, files name)) r i)
