-- Which candidates and owners make the vertex of a feature.
use Rattle.std.proofs.Common.{◌≡◌, ◌≢◌, ℕ, zero, suc, ◌+◌, ◌≤◌, Bool, true, false, cond, ◌||◌, List, [], ◌∷◌, map, drop}
use Rattle.std.proofs.Common.{length, slice_get, refl, sym, ap, ap₂, ◌∙◌, arith, true≢false}
use Rattle.std.specs.List.{list_any, All, AllPairs}
use Rattle.std.proofs.lemmas.List.{length-map}
use Rattle.std.proofs.lemmas.List.Folds.{list_any-append}
use Rattle.semver.specs.Identifiers.{parts_of}
use Rattle.semver.specs.declared.Version.{Version}
use Rattle.model.specs.Summary.{same_text}
use Rattle.model.specs.Content.{Candidate, candidates_of, passes}
use Rattle.model.specs.Vertices.{Owner, version_of}
use Rattle.model.specs.Candidates.{Record, as_candidate}
use Rattle.model.proofs.Same.{text-same, text-refl}
use Rattle.model.proofs.Lists.{all_first, all_rest, pairs_all, pairs_rest}
use Rattle.model.proofs.Mapped.{any-map}
use Rattle.manifest.specs.Manifests.{ManifestView}
use Rattle.model.specs.Causes.{owner_asks, owners_in}
use Rattle.catalogue.specs.Problems.{problem_in}
use Rattle.catalogue.specs.Stores.{records, CatalogueView, IsStore, Row, candidates_at, rows_by_name}
use Rattle.catalogue.proofs.LawsCatalogues.{store-catalogue}
use Rattle.axioms.specs.inner.Asking.{row_owners_ask, version_asks}
use Rattle.catalogue.proofs.Lookups.{candidates_are}

-- ---- the loop over places

pub any_here : {X : Type 0} (t : X → Bool) (xs : List X) (i : ℕ) → passes t (slice_get xs i) ≡ true
    → list_any t (drop i xs) ≡ true
any_here t [] i e = absurd (true≢false (sym e))
any_here t (x ∷ xs) zero e = ap (λ b. b || list_any t xs) e
any_here t (x ∷ xs) (suc i) e = any_here t xs i e

any_next : {X : Type 0} (t : X → Bool) (xs : List X) (i : ℕ) → passes t (slice_get xs i) ≡ false
    → list_any t (drop i xs) ≡ list_any t (drop (suc i) xs)
any_next t [] zero e = refl
any_next t [] (suc i) e = refl
any_next t (x ∷ xs) zero e = ap (λ b. b || list_any t xs) e
any_next t (x ∷ xs) (suc i) e = any_next t xs i e

pub any_later : {X : Type 0} (t : X → Bool) (xs : List X) (i : ℕ) → passes t (slice_get xs i) ≡ false
    → list_any t (drop i xs) ≡ list_any t (drop (i + 1) xs)
any_later t xs i e = any_next t xs i e ∙ ap (λ k. list_any t (drop k xs)) (suc_is i)
  where
    suc_is : (i : ℕ) → suc i ≡ i + 1
    suc_is i = omega arith

pub any_end : {X : Type 0} (t : X → Bool) (xs : List X) (i : ℕ) → length xs ≤ i → list_any t (drop i xs) ≡ false
any_end t [] zero le = refl
any_end t [] (suc i) le = refl
any_end t (x ∷ xs) zero le = absurd (omega (arith, le))
any_end t (x ∷ xs) (suc i) le = any_end t xs i (omega (arith, le))

-- there are as many versions as candidates
pub counted : (c : CatalogueView) (name : List ℕ) (vs : List Version)
    → map parts_of vs ≡ map (λ r. r.version) (candidates_at c name)
    → length (candidates_of (rows_by_name c) name) ≡ length vs
counted c name vs e = ap length (candidates_are c name) ∙ length-map (candidates_at c name) as_candidate
    ∙ sym (length-map (candidates_at c name) (λ (r : Record). r.version)) ∙ ap length (sym e) ∙ length-map vs parts_of

-- ---- what owners ask for

abbrev Rows : Type 0
Rows = List (List ℕ × List Candidate)

skipped : (p : List ℕ → List Candidate → Bool) (rows : Rows) (head : List ℕ × List Candidate) (rest : Rows)
    → All (λ r. head.0 ≢ r.0) rest
    → list_any (λ r. p r.0 (candidates_of (head ∷ rows) r.0)) rest ≡ list_any (λ r. p r.0 (candidates_of rows r.0)) rest
skipped p rows head [] h = refl
skipped p rows head (r ∷ rest) h = ap₂ (λ a b. a || b) (ap (p r.0) (skip (same_text r.0 head.0) refl))
    (skipped p rows head rest (all_rest (λ r. head.0 ≢ r.0) r rest h))
  where
    skip : (b : Bool) → same_text r.0 head.0 ≡ b → cond b head.1 (candidates_of rows r.0) ≡ candidates_of rows r.0
    skip true e = absurd (all_first (λ r. head.0 ≢ r.0) r rest h (sym (text-same r.0 head.0 e)))
    skip false e = refl

looked_up : (p : List ℕ → List Candidate → Bool) (rows : Rows) → AllPairs (λ a b. a.0 ≢ b.0) rows
    → list_any (λ r. p r.0 (candidates_of rows r.0)) rows ≡ list_any (λ r. p r.0 r.1) rows
looked_up p [] h = refl
looked_up p (r ∷ rows) h = ap₂ (λ a b. a || b) (ap (λ b. p r.0 (cond b r.1 (candidates_of rows r.0))) (text-refl r.0))
    (skipped p rows r rows (pairs_all (λ a b. a.0 ≢ b.0) r rows h)
    ∙ looked_up p rows (pairs_rest (λ a b. a.0 ≢ b.0) r rows h))

owned : (p : Owner → Bool) (rows : Rows)
    → list_any (λ r. list_any (λ (c : Candidate). p (version_of r.0 c.version)) r.1) rows ≡ list_any p (owners_in rows)
owned p [] = refl
owned p (r ∷ rows) =
    ap₂ (λ a b. a || b) (sym (any-map p (λ (c : Candidate). version_of r.0 c.version) r.1)) (owned p rows)
    ∙ sym (list_any-append p (map (λ (c : Candidate). version_of r.0 c.version) r.1) (owners_in rows))

pub rows_asked : (m : ManifestView) (c : CatalogueView) (name f : List ℕ) → IsStore c
    → list_any (row_owners_ask (problem_in m c) name f) (map (λ row. row.0) c.rows)
    ≡ list_any (owner_asks (problem_in m c) name f) (owners_in (rows_by_name c))
unfolding row_owners_ask version_asks
rows_asked m c name f store =
    let q = problem_in m c in
    any-map (row_owners_ask q name f) (λ (row : Row). row.0) c.rows
    ∙ sym (any-map (λ (r : List ℕ × List Candidate). row_owners_ask q name f r.0)
    (λ (row : Row). (row.0, map as_candidate (records row.1))) c.rows)
    ∙ looked_up (λ n cs. list_any (λ (e : Candidate). owner_asks q name f (version_of n e.version)) cs) (rows_by_name c)
    (store-catalogue m c store).names_distinct
    ∙ owned (owner_asks q name f) (rows_by_name c)
