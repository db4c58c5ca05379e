-- Versions that are met, one after another, the owners that they are, and what is read of them in a catalogue.
use Rattle.std.proofs.Common.{◌≡◌, ◌≢◌, ℕ, zero, suc, ◌+◌, ◌-◌, ◌<◌, Bool, true, false, cond, List, [], ◌∷◌, ◌++◌, map}
use Rattle.std.proofs.Common.{length, Contains, Bor, Option, Some, None, IsSome, option_map, nat_eq, slice_get, get_or}
use Rattle.std.proofs.Common.{is_some, unwrap_or, refl, sym, ap, ap₂, ◌∙◌, subst, subst₂, inl, inr, arith}
use Rattle.std.proofs.Common.{true≢false}
use Rattle.std.specs.List.{All, AllPairs, list_any}
use Rattle.std.specs.Slice.{IsItemAt}
use Rattle.std.specs.declared.cmp.Ordering.TheVariants.{Less, Equal}
use Rattle.std.proofs.lemmas.Bool.{cases_order, eqb-true, eq-eqb}
use Rattle.std.proofs.lemmas.List.{append_assoc, map-append, length-map, append-nil}
use Rattle.std.proofs.lemmas.List.Kept.{AllPairs-cons}
use Rattle.std.proofs.lemmas.Option.{slice_get-get_or, slice_get-map, slice_get_within, same_Some, none-some}
use Rattle.std.proofs.lemmas.List.Quantifiers.{all_pairs_push}
use Rattle.std.proofs.lemmas.List.Elements.{All-push, All-map}
use Rattle.indexmap.specs.IndexSet.{insert_key}
use Rattle.semver.specs.Parse.{Parts}
use Rattle.model.specs.Summary.{same_text}
use Rattle.model.specs.Content.{Candidate, Package, brings_of, candidate_at, candidates_of}
use Rattle.model.specs.inner.ContentOf.{package_of}
use Rattle.model.specs.Candidates.{IsOlder, Record, as_candidate}
use Rattle.model.specs.Order.{precedence}
use Rattle.model.specs.Vertices.{Owner, the_root, version_of, owner_brings}
use Rattle.model.proofs.Contents.{precedence-equal, less_equal}
use Rattle.model.proofs.Inner.{name_in, version_in}
use Rattle.model.proofs.Lists.{all_get, all_first, all_rest, pairs_get, pairs_none, to_any}
use Rattle.model.proofs.Owners.{candidate_at-is, candidate_at-there}
use Rattle.model.proofs.Same.{both, text-refl, text-same}
use Rattle.model.proofs.Places.{place_of, got_in, get_more, map_at}
use Rattle.model.proofs.Mapped.{pairs_map}
use Rattle.catalogue.proofs.Lookups.{candidates_are}
use Rattle.manifest.specs.Manifests.{ManifestView}
use Rattle.catalogue.specs.Problems.{problem_in}
use Rattle.catalogue.specs.Stores.{CatalogueView, IsStore, Row, candidates_at, row_at, rows_by_name, AreRising, Said}
use Rattle.catalogue.specs.Stores.{said}
use Rattle.catalogue.proofs.Rows.{item_at}
use Rattle.selection.specs.inner.Contents.{AreMetVersions, Grows, IsCandidate, IsThere, candidate_owner, owner_if}
use Rattle.selection.specs.inner.Contents.{owners_of}
use Rattle.selection.specs.inner.Contents.{same_met, met_owner}
use Rattle.selection.specs.declared.met.MetVersion.{MetVersion}
use Rattle.selection.proofs.Rows.{versions_are}

-- ---- one version more

abbrev pub met_with : List ℕ → ℕ → MetVersion
met_with n p = record { name = n; place = p }

pub same_is : (s t : MetVersion) → same_met s t ≡ true → s ≡ t
same_is s t h = let e = both (same_text s.name t.name) (nat_eq s.place t.place) h in
    ap₂ (λ n p. met_with n p) (text-same s.name t.name e.0) (eqb-true s.place t.place e.1)

same_itself : (s : MetVersion) → same_met s s ≡ true
same_itself s = rw (text-refl s.name, eq-eqb s.place s.place refl) refl

differ : (s : MetVersion) (ts : List MetVersion) → list_any (same_met s) ts ≡ false → All (λ t. t ≢ s) ts
differ s ts none k d lt e =
    let c : Contains ts s = (k, lt, get_or_any ts k d s lt ∙ e) in
    true≢false (sym (to_any (same_met s) ts s c (same_itself s)) ∙ none)
  where
    get_or_any : (ts : List MetVersion) (k : ℕ) (d e : MetVersion) → k < length ts → get_or ts k e ≡ get_or ts k d
    get_or_any ts k d e lt =
        same_Some (get_or ts k e) (get_or ts k d) (sym (slice_get-get_or ts k e lt) ∙ slice_get-get_or ts k d lt)

pub unchanged : (index : CatalogueView) (versions : List MetVersion) → Grows index versions versions
unchanged index versions = record { more = []; is = sym (append-nil versions); still = λ h. h }

pub grown : (index : CatalogueView) (versions new : List MetVersion) (s : MetVersion) → IsThere index s
    → new ≡ insert_key same_met versions s → Grows index versions new
grown index versions new s there e = by (list_any (same_met s) versions) refl
  where
    by : (b : Bool) → list_any (same_met s) versions ≡ b → Grows index versions new
    by true h = subst (Grows index versions) (sym (e ∙ ap (λ b. cond b versions (versions ++ s ∷ [])) h))
        (unchanged index versions)
    by false h =
        let is : new ≡ versions ++ s ∷ [] = e ∙ ap (λ b. cond b versions (versions ++ s ∷ [])) h in
        record {
          more = s ∷ [];
          is = is;
          still = λ h'. subst (AreMetVersions index) (sym is) (record {
            distinct = all_pairs_push (λ s t. s ≢ t) versions s h'.distinct (differ s versions h);
            there = All-push (IsThere index) versions s h'.there there;
          });
        }

pub grows_on : (index : CatalogueView) (a b c : List MetVersion) → Grows index a b → Grows index b c → Grows index a c
grows_on index a b c g h = record {
  more = g.more ++ h.more;
  is = h.is ∙ ap (λ xs. xs ++ h.more) g.is ∙ append_assoc a g.more h.more;
  still = λ k. h.still (g.still k);
}

-- the owners where more versions are met: those at their places stay
pub owner_on : (index : CatalogueView) (a b : List MetVersion) → Grows index a b → (n : ℕ) (o : Owner)
    → slice_get (owners_of index a) n ≡ Some o → slice_get (owners_of index b) n ≡ Some o
owner_on index a b g n o at = subst (λ ks. slice_get (owners_of index ks) n ≡ Some o) (sym g.is) (longer n at)
  where
    longer : (n : ℕ) → slice_get (owners_of index a) n ≡ Some o → slice_get (owners_of index (a ++ g.more)) n ≡ Some o
    longer zero at = at
    longer (suc n) at = ap (λ xs. slice_get xs n) (map-append (met_owner index) a g.more)
        ∙ get_more (map (met_owner index) a) (map (met_owner index) g.more) n o at

-- ---- candidates in a store

rising_at : (rows : List Row) (name : List ℕ) → All (λ row. AreRising row.1) rows
    → AreRising (unwrap_or (row_at rows name) [])
rising_at [] name h = pairs_none IsOlder
rising_at (row ∷ rows) name h =
    elim (same_text name row.0) as (λ b. AreRising (unwrap_or (cond b (Some row.1) (row_at rows name)) [])) [
      | true ↦ all_first (λ (r : Row). AreRising r.1) row rows h
      | false ↦ rising_at rows name (all_rest (λ (r : Row). AreRising r.1) row rows h)
    ]

abbrev Rising : List Candidate → Type 0
Rising cs = AllPairs (λ c e. precedence c.version e.version ≡ Less) cs

pub rising_of : (index : CatalogueView) (name : List ℕ) → IsStore index
    → Rising (candidates_of (rows_by_name index) name)
rising_of index name s =
    subst Rising (sym (candidates_are index name)) (pairs_map as_candidate (λ c e. precedence c.version e.version
    ≡ Less) (candidates_at index name) (rising_at index.rows name s.versions_rise))

-- the version of each is there once
pub once_at : (cs : List Candidate) → Rising cs → (n m : ℕ) (c e : Candidate) → slice_get cs n ≡ Some c
    → slice_get cs m ≡ Some e → precedence c.version e.version ≡ Equal → precedence e.version c.version ≡ Equal → n ≡ m
once_at cs h n m c e got had same back = elim (cases_order n m) [
  | inl is ↦ is
  | inr o ↦ elim o [
    | inl lt ↦ absurd (less_equal (precedence c.version e.version)
        (pairs_get (λ c e. precedence c.version e.version ≡ Less) cs n m c e h lt got had) same)
    | inr gt ↦ absurd (less_equal (precedence e.version c.version)
        (pairs_get (λ c e. precedence c.version e.version ≡ Less) cs m n e c h gt had got) back)
  ]
]

found_at : (cs : List Candidate) → Rising cs → (n : ℕ) (c : Candidate) → slice_get cs n ≡ Some c
    → candidate_at cs c.version ≡ Some c
found_at cs h n c got =
    let (e, is) = candidate_at-there cs c (got_in cs n c got) in
    let (k, same) = candidate_at-is cs c.version e is in
    let (m, had) = place_of cs e k in
    let places = once_at cs h n m c e got had (precedence-equal c.version e.version same)
    (precedence-equal e.version c.version (sym same)) in
    is ∙ (sym had ∙ ap (slice_get cs) (sym places) ∙ got)

-- the candidate that a version is that is met
pub at_met : (index : CatalogueView) → IsStore index → (s : MetVersion) (c : Candidate)
    → slice_get (candidates_of (rows_by_name index) s.name) s.place ≡ Some c
    → (met_owner index s ≡ version_of s.name c.version)
    × (candidate_at (candidates_of (rows_by_name index) s.name) c.version ≡ Some c)
at_met index h s c got = (
  ap (owner_if s.name) got,
  found_at (candidates_of (rows_by_name index) s.name) (rising_of index s.name h) s.place c got,
)

-- ---- what is read from the catalogue

pub some_is : {X : Type 0} (o : Option X) → IsSome o → (x : X) × (o ≡ Some x)
some_is (Some x) h = (x, refl)
some_is None h = absurd (true≢false (sym h))

pub got_item : {X : Type 0} (xs : List X) (i : ℕ) (r : Option (Bor X)) (b : Bor X) → IsItemAt xs i r → r ≡ Some b
    → slice_get xs i ≡ Some b.now
got_item xs i r b h e = by (slice_get xs i) (sym (ap (option_map (λ (b : Bor _). b.now)) e) ∙ item_at (λ x. x) xs i r h)
  where
    by : (o : Option _) → Some b.now ≡ option_map (λ x. x) o → o ≡ Some b.now
    by None h = absurd (none-some b.now (sym h))
    by (Some x) h = sym h

candidate_get : (index : CatalogueView) (name : List ℕ) (n : ℕ) → slice_get (candidates_of (rows_by_name index) name) n
    ≡ option_map as_candidate (slice_get (candidates_at index name) n)
candidate_get index name n =
    ap (λ cs. slice_get cs n) (candidates_are index name) ∙ slice_get-map as_candidate (candidates_at index name) n

-- what is said of a record at a place is said of the candidate there
pub said_there : (index : CatalogueView) (name : List ℕ) (n : ℕ) (x : Said)
    → Some x ≡ option_map said (slice_get (candidates_at index name) n)
    → (c : Candidate) × (slice_get (candidates_of (rows_by_name index) name) n ≡ Some c) × (c.brings ≡ x.brings)
    × (c.checksum ≡ x.checksum)
said_there index name n x h = by (slice_get (candidates_at index name) n) (candidate_get index name n) h
  where
    by : (o : Option Record) → slice_get (candidates_of (rows_by_name index) name) n ≡ option_map as_candidate o
        → Some x ≡ option_map said o
        → (c : Candidate) × (slice_get (candidates_of (rows_by_name index) name) n ≡ Some c) × (c.brings ≡ x.brings)
        × (c.checksum ≡ x.checksum)
    by None e h = absurd (none-some x (sym h))
    by (Some r) e h =
        let same : x ≡ said r = same_Some x (said r) h in
        (as_candidate r, e, sym (ap (λ (x : Said). x.brings) same), sym (ap (λ (x : Said). x.checksum) same))

-- the place of a version that is there is one of its name's candidates
pub within : (index : CatalogueView) (s : MetVersion) → IsThere index s → s.place < length (candidates_at index s.name)
within index s there =
    by (slice_get (candidates_at index s.name) s.place) refl (candidate_get index s.name s.place)
  where
    by : (o : Option Record) → slice_get (candidates_at index s.name) s.place ≡ o
        → slice_get (candidates_of (rows_by_name index) s.name) s.place ≡ option_map as_candidate o
        → s.place < length (candidates_at index s.name)
    by None is e = absurd (true≢false (sym (sym (ap is_some e) ∙ there)))
    by (Some r) is e = slice_get_within (candidates_at index s.name) s.place r is

-- ---- what an owner brings

after_root : (index : CatalogueView) (versions : List MetVersion) (n : ℕ) (o : Owner) (s : MetVersion) → (n ≡ 0 → ⊥)
    → slice_get versions (n - 1) ≡ Some s → slice_get (owners_of index versions) n ≡ Some o → met_owner index s ≡ o
after_root index versions zero o s other got at = absurd (other refl)
after_root index versions (suc n) o s other got at =
    let is : suc n - 1 ≡ n = omega arith in
    same_Some (met_owner index s) o (sym (slice_get-map (met_owner index) versions n
    ∙ ap (option_map (met_owner index)) (ap (slice_get versions) (sym is) ∙ got)) ∙ at)

pub met_brings : (manifest : ManifestView) (index : CatalogueView) (versions : List MetVersion) (n : ℕ)
    (s : MetVersion) (x : Said)
    → IsStore index → (n ≡ 0 → ⊥) → slice_get versions (n - 1) ≡ Some s
    → Some x ≡ option_map said (slice_get (candidates_at index s.name) s.place)
    → (o : Owner) → slice_get (owners_of index versions) n ≡ Some o
    → x.brings ≡ owner_brings (problem_in manifest index) o
met_brings manifest index versions n s x store other got h o at =
    let (c, there, brings, sum) = said_there index s.name s.place x h in
    let (owner, found) = at_met index store s c there in
    let is : version_of s.name c.version ≡ o = sym owner ∙ after_root index versions n o s other got at in
    sym brings ∙ sym (ap brings_of found) ∙ ap (owner_brings (problem_in manifest index)) is

pub owner_at_met : (index : CatalogueView) (versions : List MetVersion) (n : ℕ) (s : MetVersion) → (n ≡ 0 → ⊥)
    → slice_get versions (n - 1) ≡ Some s → slice_get (owners_of index versions) n ≡ Some (met_owner index s)
owner_at_met index versions zero s other got = absurd (other refl)
owner_at_met index versions (suc n) s other got =
    let is : n ≡ suc n - 1 = omega arith in
    slice_get-map (met_owner index) versions n ∙ ap (option_map (met_owner index)) (ap (slice_get versions) is ∙ got)

pub no_owner : (index : CatalogueView) (versions : List MetVersion) (n : ℕ) → (n ≡ 0 → ⊥)
    → slice_get versions (n - 1) ≡ None
    → slice_get (owners_of index versions) n ≡ None
no_owner index versions zero other got = absurd (other refl)
no_owner index versions (suc n) other got =
    let is : n ≡ suc n - 1 = omega arith in
    slice_get-map (met_owner index) versions n ∙ ap (option_map (met_owner index)) (ap (slice_get versions) is ∙ got)

-- ---- the package of a version that is met

pub no_version : (index : CatalogueView) (s : MetVersion) (vs : List Parts) → vs
    ≡ map (λ (r : Record). r.version) (candidates_at index s.name) → slice_get vs s.place ≡ None → IsThere index s → ⊥
no_version index s vs e none there =
    by (slice_get (candidates_at index s.name) s.place) (candidate_get index s.name s.place)
    (sym (slice_get-map (λ (r : Record). r.version) (candidates_at index s.name) s.place)
    ∙ ap (λ l. slice_get l s.place) (sym e) ∙ none)
  where
    by : (o : Option Record) → slice_get (candidates_of (rows_by_name index) s.name) s.place
        ≡ option_map as_candidate o → option_map (λ (r : Record). r.version) o ≡ None → ⊥
    by None e h = true≢false (sym (sym (ap is_some e) ∙ there))
    by (Some r) e h = none-some r.version (sym h)

-- the owner that a version is that is met
pub owner_is : (index : CatalogueView) (s : MetVersion) (vs : List Parts) (v : Parts) → vs
    ≡ map (λ (r : Record). r.version) (candidates_at index s.name) → slice_get vs s.place ≡ Some v
    → met_owner index s ≡ version_of s.name v
owner_is index s vs v e got =
    ap (owner_if s.name) (candidate_get index s.name s.place)
    ∙ by (slice_get (candidates_at index s.name) s.place)
    (sym (slice_get-map (λ (r : Record). r.version) (candidates_at index s.name) s.place)
    ∙ ap (λ l. slice_get l s.place) (sym e) ∙ got)
  where
    by : (o : Option Record) → option_map (λ (r : Record). r.version) o ≡ Some v
        → owner_if s.name (option_map as_candidate o) ≡ version_of s.name v
    by None h = absurd (none-some v h)
    by (Some r) h = ap (version_of s.name) (same_Some r.version v h)

abbrev package_with : List ℕ → Parts → Option (List ℕ) → Option (List ℕ) → List ℕ → Package
package_with name version source checksum list =
    record { name = name; version = version; source = source; checksum = checksum; list = list }

pub met_package_is : (manifest : ManifestView) (index : CatalogueView) (s : MetVersion) (x : Said) (vs : List Parts)
    (v : Parts) (name source sum list : List ℕ) → IsStore index
    → Some x ≡ option_map said (slice_get (candidates_at index s.name) s.place)
    → vs ≡ map (λ (r : Record). r.version) (candidates_at index s.name) → slice_get vs s.place ≡ Some v
    → name ≡ s.name → source ≡ index.source → sum ≡ x.checksum → list ≡ []
    → package_with name v (Some source) (Some sum) list ≡ package_of (problem_in manifest index) (met_owner index s) []
met_package_is manifest index s x vs v name source sum list store h e at en es ec el =
    let (c, there, brings, sums) = said_there index s.name s.place x h in
    let (owner, found) = at_met index store s c there in
    let all : vs ≡ map (λ (c : Candidate). c.version) (candidates_of (rows_by_name index) s.name)
    = e ∙ versions_are (candidates_at index s.name)
    ∙ ap (map (λ (c : Candidate). c.version)) (sym (candidates_are index s.name)) in
    let same : v ≡ c.version = same_Some v c.version (sym at ∙ ap (λ l. slice_get l s.place) all
    ∙ slice_get-map (λ (c : Candidate). c.version) (candidates_of (rows_by_name index) s.name) s.place
    ∙ ap (option_map (λ (c : Candidate). c.version)) there) in
    ap₂ (λ n w. package_with n w (Some source) (Some sum) list) en same
    ∙ ap₂ (λ o k. package_with s.name c.version o k list) (ap Some es)
    (ap Some (ec ∙ sym sums) ∙ sym (ap (option_map (λ (c : Candidate). c.checksum)) found))
    ∙ ap (λ l. package_with s.name c.version (Some index.source) (option_map (λ (c : Candidate). c.checksum)
    (candidate_at (candidates_of (rows_by_name index) s.name) c.version)) l) el
    ∙ ap (λ o. package_of (problem_in manifest index) o []) (sym owner)

pub met_there : (index : CatalogueView) (versions : List MetVersion) (n : ℕ) (s : MetVersion)
    → AreMetVersions index versions
    → slice_get versions n ≡ Some s → IsThere index s
met_there index versions n s h got = all_get (IsThere index) versions n s h.there got

-- ---- each owner once

module _ (index : CatalogueView) (store : IsStore index) where
  apart : (s t : MetVersion) → IsThere index s → IsThere index t → s ≢ t → met_owner index s ≢ met_owner index t
  apart s t h k other e =
      let (c, got) = some_is (slice_get (candidates_of (rows_by_name index) s.name) s.place) h in
      let (d, had) = some_is (slice_get (candidates_of (rows_by_name index) t.name) t.place) k in
      let same : version_of s.name c.version ≡ version_of t.name d.version =
      sym (ap (owner_if s.name) got) ∙ e ∙ ap (owner_if t.name) had in
      let names : s.name ≡ t.name = name_in s.name t.name c.version d.version same in
      let versions : c.version ≡ d.version = version_in s.name t.name c.version d.version same in
      let beside : slice_get (candidates_of (rows_by_name index) s.name) t.place ≡ Some d =
      ap (λ n. slice_get (candidates_of (rows_by_name index) n) t.place) names ∙ had in
      let places = once_at (candidates_of (rows_by_name index) s.name)
      (rising_of index s.name store) s.place t.place c d got beside
      (precedence-equal c.version d.version versions) (precedence-equal d.version c.version (sym versions)) in
      other (ap₂ (λ n p. met_with n p) names places)

  not_root : (s : MetVersion) → IsThere index s → the_root ≢ met_owner index s
  not_root s h e =
      let (c, got) = some_is (slice_get (candidates_of (rows_by_name index) s.name) s.place) h in
      let is : the_root ≡ version_of s.name c.version = e ∙ ap (owner_if s.name) got in
      cc

  pub owners_once : (versions : List MetVersion) → AreMetVersions index versions
      → AllPairs (λ a b. a ≢ b) (owners_of index versions)
  owners_once versions h = AllPairs-cons (λ (a b : Owner). a ≢ b) the_root (map (met_owner index) versions)
      (All-map (λ b. the_root ≢ b) (met_owner index) versions
      (λ k d lt. not_root (get_or versions k d) (h.there k d lt)))
      (pairs_map (met_owner index) (λ a b. a ≢ b) versions
      (λ i j d lt within. apart (get_or versions i d) (get_or versions j d)
      (h.there i d (omega (arith, lt, within))) (h.there j d within) (h.distinct i j d lt within)))

pub many_owners : (index : CatalogueView) (versions : List MetVersion)
    → length (owners_of index versions) ≡ suc (length versions)
many_owners index versions = rw length-map refl

-- ---- one version put

pub put_at : (index : CatalogueView) (name : List ℕ) (place : ℕ) (s : MetVersion) (keys : List MetVersion) (i : ℕ)
    → s.name ≡ name → s.place ≡ place
    → (k : MetVersion) × (slice_get keys i ≡ Some k) × (same_met s k ≡ true)
    → slice_get (owners_of index keys) (i + 1) ≡ Some (candidate_owner index name place)
put_at index name place s keys i e f (k, got, same) =
    let owner : met_owner index k ≡ candidate_owner index name place =
    ap (met_owner index) (sym (same_is s k same)) ∙ ap₂ (candidate_owner index) e f in
    next_at (owners_of index keys) i ∙ (map_at (met_owner index) keys i k got ∙ ap Some owner)
  where
    next_at : (xs : List Owner) (i : ℕ) → slice_get xs (i + 1) ≡ slice_get xs (suc i)
    next_at xs i = ap (slice_get xs) (omega arith)

pub put_grows : (index : CatalogueView) (name : List ℕ) (place : ℕ) (s : MetVersion) (old new : List MetVersion)
    → IsCandidate index name place → s.name ≡ name → s.place ≡ place
    → new ≡ insert_key same_met old s → Grows index old new
put_grows index name place s old new there e f g =
    grown index old new s (subst₂ (IsCandidate index) (sym e) (sym f) there) g
