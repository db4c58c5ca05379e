-- The rows of a store are found by the place of their name.
use Rattle.std.proofs.Common.{◌≡◌, ◌≢◌, ℕ, suc, ◌+◌, ◌≤◌, Bool, true, false, cond, List, [], ◌∷◌, map, length, Option}
use Rattle.std.proofs.Common.{Some, None, option_map, slice_get, Bor, unwrap_or, refl, sym, ap, ◌∙◌, arith, true≢false}
use Rattle.std.proofs.Common.{add-one}
use Rattle.std.specs.List.{position, position_from, IsDistinct, AllByRecursion, All, AllPairs, zip}
use Rattle.std.specs.Option.{option_and_then}
use Rattle.std.specs.Slice.{IsItemAt}
use Rattle.std.proofs.lemmas.Iterator.Adapters.{position_from-zero}
use Rattle.std.proofs.lemmas.Option.{slice_get_past, slice_get-get_or}
use Rattle.std.proofs.lemmas.List.{length-map}
use Rattle.std.proofs.lemmas.List.Kept.{AllPairs-cons}
use Rattle.index_reader.specs.Files.{SkipView}
use Rattle.model.specs.Summary.{same_text}
use Rattle.semver.specs.Grammar.{IsValid}
use Rattle.semver.specs.Identifiers.{parts_of}
use Rattle.semver.specs.declared.Version.{Version}
use Rattle.model.specs.Candidates.{Record}
use Rattle.model.proofs.Lists.{all_none, all_cons, all_first, all_rest, pairs_none}
use Rattle.features.specs.inner.Valid.{IsPackageName}
use Rattle.model.proofs.Same.{text-refl}
use Rattle.catalogue.specs.Stores.{AreRead, AreRising, AreKnown, BringValid, most_candidates, ranked_of, ranked_view}
use Rattle.catalogue.specs.Stores.{record_of, Ranked, records, CatalogueView, Row, row_at, ranked_at}
use Rattle.catalogue.specs.inner.Views.{rows_view}
use Rattle.catalogue.specs.Stores.{IsStore}
use Rattle.catalogue.specs.inner.Views.{candidates_view}
use Rattle.catalogue.specs.declared.candidate.Candidate.{Candidate}
use Rattle.catalogue.specs.declared.candidates.Candidates.{Candidates}

-- what lies behind the reference that a look-up gives
pub item_at : {X Y : Type 0} (f : X → Y) (xs : List X) (i : ℕ) (r : Option (Bor X)) → IsItemAt xs i r
    → option_map (λ b. f b.now) r ≡ option_map f (slice_get xs i)
item_at f xs i None h = sym (ap (option_map f) (slice_get_past xs i h.3))
item_at f xs i (Some b) h =
    ap (λ x. Some (f x)) (h.3.1 b.now) ∙ sym (ap (option_map f) (slice_get-get_or xs i b.now h.3.0))

pub position-cons : {X : Type 0} (p : X → Bool) (x : X) (xs : List X)
    → position p (x ∷ xs) ≡ cond (p x) (Some 0) (option_map suc (position p xs))
position-cons {X = X} p x xs = position_from-zero p (x ∷ xs) ∙ (by (p x)
    ∙ sym (ap (λ o. cond (p x) (Some 0) (option_map suc o)) (position_from-zero p xs)))
  where
    later : (ys : List X) (i : ℕ) → position_from p (i + 1) ys ≡ option_map suc (position_from p i ys)
    later [] i = refl
    later (y ∷ ys) i = step (p y) (later ys (i + 1))
      where
        step : (b : Bool) → position_from p (i + 1 + 1) ys ≡ option_map suc (position_from p (i + 1) ys)
            → cond b (Some (i + 1)) (position_from p (i + 1 + 1) ys)
            ≡ option_map suc (cond b (Some i) (position_from p (i + 1) ys))
        step true rest = ap Some (add-one i)
        step false rest = rest

    by : (b : Bool)
        → cond b (Some 0) (position_from p (0 + 1) xs) ≡ cond b (Some 0) (option_map suc (position_from p 0 xs))
    by true = refl
    by false = later xs 0

pub rows-at : (names : List (List ℕ)) (cs : List Candidates) (name : List ℕ) → length names ≡ length cs
    → row_at (rows_view names cs) name
    ≡ option_and_then (λ i. option_map candidates_view (slice_get cs i)) (position (same_text name) names)
rows-at [] [] name same = refl
rows-at (n ∷ ns) (c ∷ cs) name same = by (same_text name n) (rows-at ns cs name (omega (arith, same)))
    ∙ sym (ap (option_and_then (λ i. option_map candidates_view (slice_get (c ∷ cs) i)))
    (position-cons (same_text name) n ns))
  where
    shifted : (o : Option ℕ) → option_and_then (λ i. option_map candidates_view (slice_get cs i)) o
        ≡ option_and_then (λ i. option_map candidates_view (slice_get (c ∷ cs) i)) (option_map suc o)
    shifted None = refl
    shifted (Some i) = refl

    by : (b : Bool) → row_at (rows_view ns cs) name
        ≡ option_and_then (λ i. option_map candidates_view (slice_get cs i)) (position (same_text name) ns)
        → cond b (Some (candidates_view c)) (row_at (rows_view ns cs) name)
        ≡ option_and_then (λ i. option_map candidates_view (slice_get (c ∷ cs) i))
        (cond b (Some 0) (option_map suc (position (same_text name) ns)))
    by true rest = refl
    by false rest = rest ∙ shifted (position (same_text name) ns)
rows-at [] (c ∷ cs) name same = absurd (omega (arith, same))
rows-at (n ∷ ns) [] name same = absurd (omega (arith, same))

-- the names of the rows
pub row_names : (names : List (List ℕ)) (cs : List Candidates) → length names ≡ length cs
    → map (λ (row : Row). row.0) (rows_view names cs) ≡ names
row_names [] [] same = refl
row_names (n ∷ ns) (c ∷ cs) same = ap (λ zs. n ∷ zs) (row_names ns cs (omega (arith, same)))
row_names [] (c ∷ cs) same = absurd (omega (arith, same))
row_names (n ∷ ns) [] same = absurd (omega (arith, same))

-- what unique names and rising versions make of the rows
distinct_names : (names : List (List ℕ)) (cs : List Candidates) → IsDistinct same_text names
    → AllPairs (λ (a b : Row). a.0 ≢ b.0) (rows_view names cs)
unfolding IsDistinct
distinct_names [] cs d = pairs_none (λ (a b : Row). a.0 ≢ b.0)
distinct_names (n ∷ ns) [] d = pairs_none (λ (a b : Row). a.0 ≢ b.0)
distinct_names (n ∷ ns) (c ∷ cs) d = AllPairs-cons
    (λ (a b : Row). a.0 ≢ b.0) (n, candidates_view c) (rows_view ns cs) (others ns cs d.0) (distinct_names ns cs d.1)
  where
    others : (ms : List (List ℕ)) (es : List Candidates) → AllByRecursion (λ y. same_text n y ≡ false) ms
        → All (λ (b : Row). n ≢ b.0) (rows_view ms es)
    others [] es h = all_none (λ (b : Row). n ≢ b.0)
    others (m ∷ ms) [] h = all_none (λ (b : Row). n ≢ b.0)
    others (m ∷ ms) (e ∷ es) h = all_cons (λ (b : Row). n ≢ b.0) (m, candidates_view e) (rows_view ms es)
        (λ same. true≢false (sym (text-refl n) ∙ ap (same_text n) same ∙ h.0)) (others ms es h.1)

-- what holds of the candidates of each name
all_rows : (P : List Ranked → Type 0) (names : List (List ℕ)) (cs : List Candidates)
    → ((c : Candidates) → P (candidates_view c)) → All (λ (row : Row). P row.1) (rows_view names cs)
all_rows P [] cs h = all_none (λ (row : Row). P row.1)
all_rows P (n ∷ ns) [] h = all_none (λ (row : Row). P row.1)
all_rows P (n ∷ ns) (c ∷ cs) h =
    all_cons (λ (row : Row). P row.1) (n, candidates_view c) (rows_view ns cs) (h c) (all_rows P ns cs h)

zip-short : {X Y : Type 0} (xs : List X) (ys : List Y) → length (zip xs ys) ≤ length ys
zip-short [] ys = omega arith
zip-short (x ∷ xs) [] = omega arith
zip-short (x ∷ xs) (y ∷ ys) = let rest = zip-short xs ys in omega (arith, rest)

few_candidates : (c : Candidates) → length (candidates_view c) ≤ most_candidates
few_candidates c =
    let wide = length-map (zip c.versions.items c.candidates.items) ranked_of in
    let short = zip-short c.versions.items c.candidates.items in
    let few = c.few in
    omega (arith, wide, short, few)

valid_names : (names : List (List ℕ)) (cs : List Candidates) → All IsPackageName names
    → All (λ (row : Row). IsPackageName row.0) (rows_view names cs)
valid_names [] cs h = all_none (λ (row : Row). IsPackageName row.0)
valid_names (n ∷ ns) [] h = all_none (λ (row : Row). IsPackageName row.0)
valid_names (n ∷ ns) (c ∷ cs) h =
    all_cons (λ (row : Row). IsPackageName row.0) (n, candidates_view c) (rows_view ns cs)
    (all_first IsPackageName n ns h) (valid_names ns cs (all_rest IsPackageName n ns h))

valid_versions : (vs : List Version) (cs : List Candidate) → AreRead vs
    → All (λ (r : Record). IsValid r.version) (records (ranked_view vs cs))
valid_versions [] cs h = all_none (λ (r : Record). IsValid r.version)
valid_versions (v ∷ vs) [] h = all_none (λ (r : Record). IsValid r.version)
valid_versions (v ∷ vs) (c ∷ cs) h =
    all_cons (λ (r : Record). IsValid r.version) (record_of v c) (records (ranked_view vs cs))
    (all_first (λ (w : Version). IsValid (parts_of w)) v vs h)
    (valid_versions vs cs (all_rest (λ (w : Version). IsValid (parts_of w)) v vs h))

pub is_store : (names : List (List ℕ)) (cs : List Candidates) (skips : List SkipView) (source : List ℕ)
    → IsDistinct same_text names → All IsPackageName names
    → IsStore (record { rows = rows_view names cs; skips = skips; source = source })
is_store names cs skips source d valid = record {
  names_distinct = distinct_names names cs d;
  versions_rise = all_rows AreRising names cs (λ c. c.rising);
  versions_few = all_rows (λ rs. length rs ≤ most_candidates) names cs few_candidates;
  features_known = all_rows AreKnown names cs (λ c. c.known);
  names_valid = valid_names names cs valid;
  versions_valid = all_rows (λ rs. All (λ r. IsValid r.version) (records rs)) names cs
      (λ c. valid_versions c.versions.items c.candidates.items c.read);
  brings_valid = all_rows (λ rs. BringValid (records rs)) names cs (λ c. c.valid);
}

-- the candidates of the row that a name leads to
pub of_row : (v : CatalogueView) (name : List ℕ) (x : List Ranked) → Some x ≡ row_at v.rows name → ranked_at v name ≡ x
of_row v name x h = ap (λ o. unwrap_or o []) (sym h)
