-- A candidate is found by its place and by its version.
use Rattle.std.proofs.Common.{◌≡◌, ◌≢◌, ℕ, zero, suc, ◌<◌, Bool, true, false, cond, List, [], ◌∷◌, map}
use Rattle.std.proofs.Common.{length, get_or, Some, None, Ok, Err, option_map, slice_get, refl, sym, ap, ◌∙◌, subst}
use Rattle.std.proofs.Common.{Bor, Option, arith, Ordering, inl, inr, ◌⊎◌}
use Rattle.std.specs.List.{All, AllPairs}
use Rattle.std.specs.List.Sorted.{IsBinarySearchResult, IsNonDecreasingBy}
use Rattle.std.specs.Slice.{IsItemAt}
use Rattle.std.specs.Ordering.{ordering_index, ordering_reverse}
use Rattle.std.specs.declared.cmp.Ordering.TheVariants.{Less, Equal, Greater}
use Rattle.std.proofs.lemmas.Bool.{cases_lt}
use Rattle.std.proofs.lemmas.Cmp.{tied_itself, alike_right}
use Rattle.std.proofs.lemmas.Option.{slice_get-map, slice_get-get_or, get_or_from_slice_get}
use Rattle.std.proofs.lemmas.List.Kept.{AllPairs-cons}
use Rattle.semver.specs.Eval.{precedence_cmp}
use Rattle.semver.specs.Identifiers.{parts_of}
use Rattle.semver.specs.OrderLaws.{precedence_total}
use Rattle.semver.specs.Parse.{Parts}
use Rattle.semver.specs.declared.Version.{Version}
use Rattle.model.specs.Candidates.{Record, IsOlder}
use Rattle.model.specs.Content.{same_version}
use Rattle.model.specs.Order.{precedence}
use Rattle.model.proofs.Candidates as model
use Rattle.model.proofs.Lists.{all_none, all_cons, all_first, all_rest, pairs_none, pairs_all, pairs_rest}
use Rattle.model.proofs.Same.{version-same, version-refl}
use Rattle.model.proofs.Tests.{beside}
use Rattle.catalogue.specs.Stores.{records, said, record_of, said_by, ranked_view, AreRising, record_at}
use Rattle.catalogue.specs.declared.candidate.Candidate.{Candidate}
use Rattle.catalogue.proofs.Rows.{item_at}

abbrev pub AreOlder : List Version → Type 0
AreOlder vs = AllPairs (λ v w. precedence_cmp v w ≡ Less) vs

-- ---- by its place

-- what is looked up in a list of what is said
pub said_got : (cs : List Candidate) (rs : List Record) (i : ℕ) (r : Option (Bor Candidate))
    → map said_by cs ≡ map said rs → IsItemAt cs i r
    → option_map (λ b. said_by b.now) r ≡ option_map said (slice_get rs i)
said_got cs rs i r e h = item_at said_by cs i r h ∙ sym (slice_get-map said_by cs i) ∙ ap (λ xs. slice_get xs i) e
    ∙ slice_get-map said rs i

pub said_at : (vs : List Version) (cs : List Candidate) (i : ℕ) → length vs ≡ length cs
    → option_map said_by (slice_get cs i) ≡ option_map said (slice_get (records (ranked_view vs cs)) i)
said_at [] [] i same = refl
said_at (v ∷ vs) (c ∷ cs) zero same = refl
said_at (v ∷ vs) (c ∷ cs) (suc i) same = said_at vs cs i (omega (arith, same))
said_at [] (c ∷ cs) i same = absurd (omega (arith, same))
said_at (v ∷ vs) [] i same = absurd (omega (arith, same))

pub all_said : (vs : List Version) (cs : List Candidate) → length vs ≡ length cs
    → map said_by cs ≡ map said (records (ranked_view vs cs))
all_said [] [] same = refl
all_said (v ∷ vs) (c ∷ cs) same = ap (λ ss. said_by c ∷ ss) (all_said vs cs (omega (arith, same)))
all_said [] (c ∷ cs) same = absurd (omega (arith, same))
all_said (v ∷ vs) [] same = absurd (omega (arith, same))

pub versions_seen : (vs : List Version) (cs : List Candidate) → length vs ≡ length cs
    → map parts_of vs ≡ map (λ (r : Record). r.version) (records (ranked_view vs cs))
versions_seen [] [] same = refl
versions_seen (v ∷ vs) (c ∷ cs) same = ap (λ ps. parts_of v ∷ ps) (versions_seen vs cs (omega (arith, same)))
versions_seen [] (c ∷ cs) same = absurd (omega (arith, same))
versions_seen (v ∷ vs) [] same = absurd (omega (arith, same))

-- rising candidates have rising versions
pub versions_rise : (vs : List Version) (cs : List Candidate) → length vs ≡ length cs
    → AreRising (ranked_view vs cs) → AreOlder vs
versions_rise [] cs same h = pairs_none (λ v w. precedence_cmp v w ≡ Less)
versions_rise (v ∷ vs) [] same h = absurd (omega (arith, same))
versions_rise (v ∷ vs) (c ∷ cs) same h =
    AllPairs-cons (λ v w. precedence_cmp v w ≡ Less) v vs
    (above vs cs (omega (arith, same)) (pairs_all IsOlder _ (records (ranked_view vs cs)) h))
    (versions_rise vs cs (omega (arith, same)) (pairs_rest IsOlder _ (records (ranked_view vs cs)) h))
  where
    above : (ws : List Version) (es : List Candidate) → length ws ≡ length es
        → All (λ (r : Record). precedence (parts_of v) r.version ≡ Less) (records (ranked_view ws es))
        → All (λ w. precedence_cmp v w ≡ Less) ws
    above [] es same h = all_none (λ w. precedence_cmp v w ≡ Less)
    above (w ∷ ws) [] same h = absurd (omega (arith, same))
    above (w ∷ ws) (e ∷ es) same h = all_cons (λ w. precedence_cmp v w ≡ Less) w ws
        (all_first (λ (r : Record). precedence (parts_of v) r.version ≡ Less) _ (records (ranked_view ws es)) h)
        (above ws es (omega (arith, same))
        (all_rest (λ (r : Record). precedence (parts_of v) r.version ≡ Less) _ (records (ranked_view ws es)) h))

-- ---- by its version

precedence-self : (p : Parts) → precedence p p ≡ Equal
precedence-self p = tied_itself model.precedence_total p

-- where no version is the same, no record is found
pub none_found : (vs : List Version) (cs : List Candidate) (p : Parts)
    → All (λ v. same_version p (parts_of v) ≡ false) vs → record_at (records (ranked_view vs cs)) p ≡ None
none_found [] cs p h = refl
none_found (v ∷ vs) [] p h = refl
none_found (v ∷ vs) (c ∷ cs) p h =
    let rest = none_found vs cs p (all_rest (λ v. same_version p (parts_of v) ≡ false) v vs h) in
    let this = all_first (λ v. same_version p (parts_of v) ≡ false) v vs h in
    ap (λ b. cond b (Some (record_of v c)) (record_at (records (ranked_view vs cs)) p)) this ∙ rest

-- the record at the place of a version is the one that is found
pub one_found : (vs : List Version) (cs : List Candidate) (p : Parts) (i : ℕ) → length vs ≡ length cs → AreOlder vs
    → slice_get (map parts_of vs) i ≡ Some p
    → record_at (records (ranked_view vs cs)) p ≡ slice_get (records (ranked_view vs cs)) i
one_found [] [] p i same h at = refl
one_found [] (c ∷ cs) p i same h at = absurd (omega (arith, same))
one_found (v ∷ vs) [] p i same h at = absurd (omega (arith, same))
one_found (v ∷ vs) (c ∷ cs) p zero same h at =
    let is : parts_of v ≡ p = inner (parts_of v) p at in
    ap (λ b. cond b (Some (record_of v c)) (record_at (records (ranked_view vs cs)) p))
    (subst (λ q. same_version p q ≡ true) (sym is) (version-refl p))
  where
    inner : (x y : Parts) → Some x ≡ Some y → x ≡ y
    inner x y e = cc
one_found (v ∷ vs) (c ∷ cs) p (suc i) same h at =
    ap (λ b. cond b (Some (record_of v c)) (record_at (records (ranked_view vs cs)) p))
    (untrue (same_version p (parts_of v)) refl)
    ∙ one_found vs cs p i (omega (arith, same)) (pairs_rest (λ v w. precedence_cmp v w ≡ Less) v vs h) at
  where
    later : (ws : List Version) (k : ℕ) → All (λ w. precedence_cmp v w ≡ Less) ws
        → slice_get (map parts_of ws) k ≡ Some p → precedence (parts_of v) p ≡ Less
    later [] k a e = cc
    later (w ∷ ws) zero a e = let is : parts_of w ≡ p =
        cc in subst (λ q. precedence (parts_of v) q ≡ Less) is (all_first (λ w. precedence_cmp v w ≡ Less) w ws a)
    later (w ∷ ws) (suc k) a e = later ws k (all_rest (λ w. precedence_cmp v w ≡ Less) w ws a) e

    untrue : (b : Bool) → same_version p (parts_of v) ≡ b → b ≡ false
    untrue false e = refl
    untrue true e =
        let is : p ≡ parts_of v = version-same p (parts_of v) e in
        let less : precedence (parts_of v) p ≡ Less =
        later vs i (pairs_all (λ v w. precedence_cmp v w ≡ Less) v vs h) at in
        let equal : precedence (parts_of v) p ≡ Equal = ap (λ q. precedence q p) (sym is) ∙ precedence-self p in
        let clash : Less ≡ Equal = sym less ∙ equal in cc

-- ---- the search

pub search_rises : (vs : List Version) (x : Version) → AreOlder vs
    → IsNonDecreasingBy (λ v. ordering_index (precedence_cmp v x)) vs
search_rises vs x h i j d le within = elim (cases_lt i j) [
  | inl less ↦ beside precedence_total (get_or vs i d) (get_or vs j d) x (h i j d less within)
  | inr back ↦ let e : i ≡ j = omega arith in rw e (omega arith)
]

-- versions none of which is another's equal, or the same
none_same : (vs : List Version) (x : Version)
    → All (λ v. (precedence_cmp v x ≢ Equal) ⊎ (same_version (parts_of x) (parts_of v) ≡ false)) vs
    → All (λ v. same_version (parts_of x) (parts_of v) ≡ false) vs
none_same vs x h k d within = elim
    (h k d within) [ inl other ↦ untrue other (same_version (parts_of x) (parts_of (get_or vs k d))) refl | inr e ↦ e ]
  where
    untrue : precedence_cmp (get_or vs k d) x ≢ Equal → (b : Bool)
        → same_version (parts_of x) (parts_of (get_or vs k d)) ≡ b → b ≡ false
    untrue other false e = refl
    untrue other true e = absurd (other (ap (λ q. precedence q (parts_of x))
        (sym (version-same (parts_of x) (parts_of (get_or vs k d)) e)) ∙ precedence-self (parts_of x)))

pub less-other : (o : Ordering) → o ≡ Less → o ≢ Equal
less-other o e f = let k : Less ≡ Equal = sym e ∙ f in cc

pub greater-other : (o : Ordering) → o ≡ Greater → o ≢ Equal
greater-other o e f = let k : Greater ≡ Equal = sym e ∙ f in cc

-- a search that ends between two versions found none
pub search_ends : (vs : List Version) (x : Version) (i : ℕ) → AreOlder vs
    → IsBinarySearchResult (λ v. precedence_cmp v x) vs (Err i)
    → All (λ v. same_version (parts_of x) (parts_of v) ≡ false) vs
search_ends vs x i h found =
    let split = found (search_rises vs x h) in
    none_same vs x (λ k d within. elim (cases_lt k i) [
      | inl less ↦ inl (less-other (precedence_cmp (get_or vs k d) x) (split.0 k d (omega arith) less))
      | inr back ↦ inl (greater-other (precedence_cmp (get_or vs k d) x) (split.1 k d back within))
    ])

-- one of equal precedence that isn't the same stands alone
pub search_differs : (vs : List Version) (x : Version) (i : ℕ) → AreOlder vs → i < length vs
    → IsBinarySearchResult (λ v. precedence_cmp v x) vs (Ok i)
    → (y : Version) → get_or vs i y ≡ y → same_version (parts_of x) (parts_of y) ≡ false
    → All (λ v. same_version (parts_of x) (parts_of v) ≡ false) vs
search_differs vs x i h inside found y is apart = none_same vs x (λ k d within. elim (cases_lt k i) [
  | inl less ↦ inl (less-other (precedence_cmp (get_or vs k d) x)
      (sym (alike_right precedence_total (get_or vs i d) x (get_or vs k d) (found d)) ∙ h k i d less inside))
  | inr back ↦ elim (cases_lt i k) [
    | inl more ↦ inl (greater-other (precedence_cmp (get_or vs k d) x)
        (sym (alike_right precedence_total (get_or vs i d) x (get_or vs k d) (found d))
        ∙ precedence_total.antisymm (get_or vs k d) (get_or vs i d) ∙ ap ordering_reverse (h i k d more within)))
    | inr even ↦ let e : i ≡ k = omega (arith, back, even) in inr
        (subst (λ n. same_version (parts_of x) (parts_of (get_or vs n d)) ≡ false) e (ap (λ v. same_version (parts_of x)
        (parts_of v)) (get_or_from_slice_get vs i y d (slice_get-get_or vs i y inside ∙ ap Some is)) ∙ apart))
  ]
])

-- the place of a version
pub search_finds : (vs : List Version) (x y : Version) (i : ℕ) → i < length vs → get_or vs i y ≡ y
    → same_version (parts_of x) (parts_of y) ≡ true → slice_get (map parts_of vs) i ≡ Some (parts_of x)
search_finds vs x y i inside is same =
    slice_get-map parts_of vs i ∙ ap (option_map parts_of) (slice_get-get_or vs i y inside ∙ ap Some is)
    ∙ ap Some (sym (version-same (parts_of x) (parts_of y) same))

-- the candidate at that place
pub candidate_found : (vs : List Version) (cs : List Candidate) (p : Parts) (i : ℕ) → length vs ≡ length cs
    → AreRising (ranked_view vs cs) → slice_get (map parts_of vs) i ≡ Some p
    → option_map said_by (slice_get cs i) ≡ option_map said (record_at (records (ranked_view vs cs)) p)
candidate_found vs cs p i same h at =
    said_at vs cs i same ∙ sym (ap (option_map said) (one_found vs cs p i same (versions_rise vs cs same h) at))
