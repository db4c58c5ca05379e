-- The place that is picked is that of the first candidate, in the order of preference, that matches.
use Rattle.std.proofs.Common.{◌≡◌, ℕ, suc, ◌+◌, ◌<◌, Bool, true, false, cond, List, [], ◌∷◌, ◌++◌, map}
use Rattle.std.proofs.Common.{filter, reverse, length, drop, get_or, Contains, Option, Some, None, option_map}
use Rattle.std.proofs.Common.{slice_get, refl, sym, ap, ap₂, ◌∙◌, subst, inl, inr, arith}
use Rattle.std.specs.List.{find}
use Rattle.std.proofs.Math.Seq.{drop-cons}
use Rattle.std.proofs.lemmas.List.{map-append}
use Rattle.std.proofs.lemmas.Option.{slice_get-map, same_Some, none-some}
use Rattle.semver.specs.EvalViews.{matches_views}
use Rattle.model.specs.Summary.{Dependency}
use Rattle.model.specs.Content.{Candidate, candidates_of}
use Rattle.model.specs.Candidates.{as_candidate}
use Rattle.model.specs.Walk.{first_match}
use Rattle.model.proofs.Lists.{in_none, in_cons}
use Rattle.model.proofs.Places.{got_in}
use Rattle.catalogue.proofs.Lookups.{candidates_are}
use Rattle.catalogue.specs.Stores.{Ranked, records, same_rank, places_of, places_by_rank, CatalogueView, ranked_at}
use Rattle.catalogue.specs.Stores.{rows_by_name}
use Rattle.catalogue.specs.declared.candidate.Rank.{Rank}
use Rattle.catalogue.specs.declared.candidate.Rank.TheVariants.{Locked, Fits, Rest}
use Rattle.catalogue.proofs.Preferences.{at_rank, map-reverse}
use Rattle.selection.proofs.Rows.{row_of, versions_are}
use Rattle.catalogue.specs.Problems.{of_rank, by_rank, preferred_in}
use Rattle.selection.specs.inner.Met.{is_matched, versions_at, place_picked}

-- ---- the loop over the places

pub find_yes : (t : ℕ → Bool) (xs : List ℕ) (i : ℕ) → i < length xs → t (get_or xs i 0) ≡ true
    → find t (drop i xs) ≡ Some (get_or xs i 0)
find_yes t xs i lt e =
    ap (find t) (drop-cons xs i 0 lt) ∙ ap (λ b. cond b (Some (get_or xs i 0)) (find t (drop (suc i) xs))) e

pub find_no : (t : ℕ → Bool) (xs : List ℕ) (i : ℕ) → i < length xs → t (get_or xs i 0) ≡ false
    → find t (drop i xs) ≡ find t (drop (i + 1) xs)
find_no t xs i lt e = ap (find t) (drop-cons xs i 0 lt)
    ∙ ap (λ b. cond b (Some (get_or xs i 0)) (find t (drop (suc i) xs))) e ∙ ap (λ k. find t (drop k xs)) (suc_is i)
  where
    suc_is : (i : ℕ) → suc i ≡ i + 1
    suc_is i = omega arith

-- ---- what lies at the places of a rank

-- the candidate that a ranked record is
abbrev pub candidate : Ranked → Candidate
candidate c = as_candidate c.0

records-candidates : (cs : List Ranked) → map as_candidate (records cs) ≡ map candidate cs
records-candidates [] = refl
records-candidates (c ∷ cs) = ap (λ zs. candidate c ∷ zs) (records-candidates cs)

rank_lies : (cs : List Ranked) (rank : Rank) → map (slice_get (map candidate cs)) (places_of rank (map (λ c. c.1) cs))
    ≡ map Some (map as_candidate (of_rank rank cs))
rank_lies cs rank =
    let kept = filter (λ (c : Ranked). same_rank c.1 rank) cs in
    at_rank candidate cs rank
    ∙ ap (map Some) (ap reverse (sym (records-candidates kept)) ∙ sym (map-reverse as_candidate (records kept)))

two : {X Y Z : Type 0} (f : X → Z) (g : Y → Z) (xs xs' : List X) (ys ys' : List Y) → map f xs ≡ map g ys
    → map f xs' ≡ map g ys' → map f (xs ++ xs') ≡ map g (ys ++ ys')
two f g xs xs' ys ys' e h = map-append f xs xs' ∙ ap₂ (λ a b. a ++ b) e h ∙ sym (map-append g ys ys')

-- what lies at the places in the order of preference
lies : (cs : List Ranked)
    → map (slice_get (map candidate cs)) (places_by_rank (map (λ c. c.1) cs)) ≡ map Some (map as_candidate (by_rank cs))
lies cs =
    let ranks = map (λ (c : Ranked). c.1) cs in
    let at = slice_get (map candidate cs) in
    two at Some (places_of Locked ranks) (places_of Fits ranks ++ places_of Rest ranks) (map as_candidate
    (of_rank Locked cs)) (map as_candidate (of_rank Fits cs) ++ map as_candidate (of_rank Rest cs))
    (rank_lies cs Locked)
    (two at Some (places_of Fits ranks) (places_of Rest ranks) (map as_candidate (of_rank Fits cs))
    (map as_candidate (of_rank Rest cs)) (rank_lies cs Fits) (rank_lies cs Rest))
    ∙ ap (map Some) (sym (map-append as_candidate (of_rank Locked cs) (of_rank Fits cs ++ of_rank Rest cs) ∙ ap (λ zs.
    map as_candidate (of_rank Locked cs) ++ zs) (map-append as_candidate (of_rank Fits cs) (of_rank Rest cs))))

-- ---- the rows of a name

pub preferred_are : (index : CatalogueView) (name : List ℕ)
    → candidates_of (preferred_in index) name ≡ map as_candidate (by_rank (ranked_at index name))
preferred_are index name = row_of by_rank refl index.rows name

-- ---- the first that matches

first_of : (cs : List Candidate) (d : Dependency) (ns : List ℕ) (ps : List Candidate)
    → map (slice_get cs) ns ≡ map Some ps
    → option_map (slice_get cs) (find (λ n. is_matched d.requirement (slice_get (map (λ c. c.version) cs) n)) ns)
    ≡ option_map Some (first_match d ps)
first_of cs d [] [] e = refl
first_of cs d [] (p ∷ ps) e = cc
first_of cs d (n ∷ ns) [] e = cc
first_of cs d (n ∷ ns) (p ∷ ps) e =
    let first : slice_get cs n ≡ Some p = cc in
    let rest : map (slice_get cs) ns ≡ map Some ps = cc in
    let test : is_matched d.requirement (slice_get (map (λ (c : Candidate). c.version) cs) n)
    ≡ matches_views d.requirement p.version
    = ap (is_matched d.requirement)
    (slice_get-map (λ (c : Candidate). c.version) cs n ∙ ap (option_map (λ (c : Candidate). c.version)) first) in
    ap (λ b. option_map (slice_get cs)
    (cond b (Some n) (find (λ n. is_matched d.requirement (slice_get (map (λ c. c.version) cs) n)) ns))) test
    ∙ by first (first_of cs d ns ps rest) (matches_views d.requirement p.version)
  where
    by : slice_get cs n ≡ Some p
        → option_map (slice_get cs) (find (λ n. is_matched d.requirement (slice_get (map (λ c. c.version) cs) n)) ns)
        ≡ option_map Some (first_match d ps) → (b : Bool)
        → option_map (slice_get cs)
        (cond b (Some n) (find (λ n. is_matched d.requirement (slice_get (map (λ c. c.version) cs) n)) ns))
        ≡ option_map Some (cond b (Some p) (first_match d ps))
    by first rest true = ap Some first
    by first rest false = rest

-- what stands at the place that is picked
pub picked_is : (index : CatalogueView) (d : Dependency)
    → option_map (slice_get (candidates_of (rows_by_name index) d.real_name)) (place_picked index d)
    ≡ option_map Some (first_match d (candidates_of (preferred_in index) d.real_name))
picked_is index d =
    let ranked = ranked_at index d.real_name in
    let cs = map candidate ranked in
    let all : candidates_of (rows_by_name index) d.real_name ≡ cs =
    candidates_are index d.real_name ∙ records-candidates ranked in
    let vs : versions_at index d.real_name ≡ map (λ (c : Candidate). c.version) cs =
    versions_are (records ranked) ∙ ap (map (λ (c : Candidate). c.version)) (records-candidates ranked) in
    ap₂ (λ xs ys. option_map (slice_get xs)
    (find (λ n. is_matched d.requirement (slice_get ys n)) (places_by_rank (map (λ c. c.1) ranked)))) all vs
    ∙ first_of cs d (places_by_rank (map (λ c. c.1) ranked)) (map as_candidate (by_rank ranked)) (lies ranked)
    ∙ sym (ap (λ ps. option_map Some (first_match d ps)) (preferred_are index d.real_name))

pub none_picked : (index : CatalogueView) (d : Dependency) → place_picked index d ≡ None
    → first_match d (candidates_of (preferred_in index) d.real_name) ≡ None
none_picked index d e = by (first_match d (candidates_of (preferred_in index) d.real_name))
    (sym (ap (option_map (slice_get (candidates_of (rows_by_name index) d.real_name))) e) ∙ picked_is index d)
  where
    by : (o : Option Candidate) → None ≡ option_map Some o → o ≡ None
    by None h = refl
    by (Some c) h = absurd (none-some (Some c) h)

pub one_picked : (index : CatalogueView) (d : Dependency) (n : ℕ) → place_picked index d ≡ Some n
    → (c : Candidate) × (first_match d (candidates_of (preferred_in index) d.real_name) ≡ Some c)
    × (slice_get (candidates_of (rows_by_name index) d.real_name) n ≡ Some c)
one_picked index d n e = by (first_match d (candidates_of (preferred_in index) d.real_name))
    (sym (ap (option_map (slice_get (candidates_of (rows_by_name index) d.real_name))) e) ∙ picked_is index d)
  where
    by : (o : Option Candidate)
        → Some (slice_get (candidates_of (rows_by_name index) d.real_name) n) ≡ option_map Some o
        → (c : Candidate) × (o ≡ Some c) × (slice_get (candidates_of (rows_by_name index) d.real_name) n ≡ Some c)
    by None h = absurd (none-some (slice_get (candidates_of (rows_by_name index) d.real_name) n) (sym h))
    by (Some c) h = (c, refl, same_Some (slice_get (candidates_of (rows_by_name index) d.real_name) n) (Some c) h)

-- ---- what is preferred are candidates

lies_in : (cs : List Candidate) (ns : List ℕ) (ps : List Candidate) (c : Candidate)
    → map (slice_get cs) ns ≡ map Some ps → Contains ps c → Contains cs c
lies_in cs [] [] c e i = absurd (in_none c i)
lies_in cs [] (p ∷ ps) c e i = cc
lies_in cs (n ∷ ns) [] c e i = cc
lies_in cs (n ∷ ns) (p ∷ ps) c e i =
    let first : slice_get cs n ≡ Some p = cc in
    let rest : map (slice_get cs) ns ≡ map Some ps = cc in
    elim (in_cons p c ps i) [
      | inl is ↦ got_in cs n c (first ∙ ap Some is)
      | inr j ↦ lies_in cs ns ps c rest j
    ]

pub preferred_among : (index : CatalogueView) (name : List ℕ) (c : Candidate)
    → Contains (candidates_of (preferred_in index) name) c → Contains (candidates_of (rows_by_name index) name) c
preferred_among index name c i =
    let ranked = ranked_at index name in
    subst (λ cs. Contains cs c) (sym (candidates_are index name ∙ records-candidates ranked))
    (lies_in (map candidate ranked) (places_by_rank (map (λ (r : Ranked). r.1) ranked))
    (map as_candidate (by_rank ranked)) c (lies ranked)
    (subst (λ cs. Contains cs c) (preferred_are index name) i))
