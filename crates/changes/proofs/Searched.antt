-- A search from its beginning to its end: one visit after another, and what it has found then.
use Rattle.std.proofs.Common.{◌≡◌, ◌<◌, ◌≤◌, ◌+◌, ℕ, zero, suc, nat_eq, Bool, true, false, List, [], ◌∷◌, None, Some}
use Rattle.std.proofs.Common.{◌++◌, Contains, cond, get_or, length, replicate, refl, sym, ap, subst, ◌∙◌, inl, inr}
use Rattle.std.proofs.Common.{arith, true≢false}
use Rattle.std.specs.Prelude.{Option}
use Rattle.std.specs.List.{All, find, slice_get}
use Rattle.std.proofs.lemmas.Bool.{both_ways, cases_Bool, cases_lt, eqb-true, or_cases}
use Rattle.std.proofs.lemmas.List.{length-replicate}
use Rattle.std.proofs.lemmas.List.Elements.{All-head, All-nil, All-tail, Contains-append_cases, Contains-append_left}
use Rattle.std.proofs.lemmas.List.Elements.{Contains-append_right, Contains-get_or}
use Rattle.std.proofs.lemmas.Option.{none-some, same_Some, slice_get_within}
use Rattle.facts.specs.inner.Chains.{has}
use Rattle.facts.specs.inner.Worklists.{unmarked}
use Rattle.facts.proofs.ListLemmas.{in_cons, in_none}
use Rattle.model.specs.Content.{Content, Package, list_if, passes}
use Rattle.model.specs.Order.{IsContent}
use Rattle.changes.specs.inner.Searches.{AreBegun, IsSearched, IsSearching, IsVisited, is_end, is_in, places_below}
use Rattle.changes.specs.inner.Searches.{seen_with, visited}
use Rattle.changes.specs.inner.Ways.{HasNoWay, IsShortest, is_way, lists}
use Rattle.changes.specs.declared.searching.Visit.{Visit}
use Rattle.changes.proofs.Leading.{way_ends}
use Rattle.changes.proofs.Visiting.{Followed, MayCome, followed, in_first, in_rest}

-- ---- lists

within_list : (n : ℕ) (js : List ℕ) → All (λ t. t < n) js → (j : ℕ) → is_in js j ≡ true → j < n
within_list n [] all j e = absurd (true≢false (sym e))
within_list n (t ∷ js) all j e = elim (or_cases (nat_eq t j) (is_in js j) e) [
  | inl is ↦ subst (λ j. j < n) (eqb-true t j is) (All-head (λ t. t < n) t js all)
  | inr e ↦ within_list n js (All-tail (λ t. t < n) t js all) j e
]

pub list_within : (n : ℕ) (content : Content) → All (λ p. All (λ t. t < n) p.list) content
    → (i : ℕ) → All (λ t. t < n) (list_if (slice_get content i))
list_within n [] all i = All-nil (λ t. t < n)
list_within n (p ∷ ps) all zero = All-head (λ (p : Package). All (λ t. t < n) p.list) p ps all
list_within n (p ∷ ps) all (suc i) =
    list_within n ps (All-tail (λ (p : Package). All (λ t. t < n) p.list) p ps all) i

pub listed_within : (content : Content) → IsContent content → (i j : ℕ) → lists content i j ≡ true → j < length content
listed_within content is i j e =
    within_list (length content) (list_if (slice_get content i)) (list_within (length content) content is.within i) j e

pub in_from_contains : (js : List ℕ) (j : ℕ) → Contains js j → is_in js j ≡ true
in_from_contains [] j c = absurd (in_none j c)
in_from_contains (t ∷ js) j c = elim (in_cons t j js c) [
  | inl is ↦ subst (λ j. is_in (t ∷ js) j ≡ true) is (in_first t js)
  | inr c ↦ in_rest t js j (in_from_contains js j c)
]

pub contains_from_in : (js : List ℕ) (j : ℕ) → is_in js j ≡ true → Contains js j
contains_from_in [] j e = absurd (true≢false (sym e))
contains_from_in (t ∷ js) j e = elim (or_cases (nat_eq t j) (is_in js j) e) [
  | inl is ↦ (zero, omega arith, eqb-true t j is)
  | inr e ↦ let c = contains_from_in js j e in (suc c.0, omega (arith, c.1), c.2)
]

-- ---- the places of packages that pass

in_cond : (b : Bool) (n : ℕ) → b ≡ true → Contains (cond b (n ∷ []) []) n
in_cond true n e = (zero, omega arith, refl)
in_cond false n e = absurd (true≢false (sym e))

of_cond : (b : Bool) (n i : ℕ) → Contains (cond b (n ∷ []) []) i → (b ≡ true) × (n ≡ i)
of_cond true n i c = elim (in_cons n i [] c) [ inl e ↦ (refl, e) | inr c ↦ absurd (in_none i c) ]
of_cond false n i c = absurd (in_none i c)

abbrev IsPlace : Content → (Package → Bool) → ℕ → ℕ → Type 0
IsPlace content test n i = (passes test (slice_get content i) ≡ true) × (i < n)

all_below : (content : Content) (test : Package → Bool) (n i : ℕ) → i < n
    → passes test (slice_get content i) ≡ true → Contains (places_below content test n) i
all_below content test zero i lt h = absurd (omega (arith, lt))
all_below content test (suc n) i lt h =
    let last = cond (passes test (slice_get content n)) (n ∷ []) [] in
    elim (cases_lt i n) [
      | inl lt ↦ Contains-append_left (places_below content test n) last i (all_below content test n i lt h)
      | inr ge ↦
          let here : n ≡ i = omega (arith, lt, ge) in
          Contains-append_right (places_below content test n) last i
          (subst (λ i. Contains last i) here
          (in_cond (passes test (slice_get content n)) n
          (ap (λ i. passes test (slice_get content i)) here ∙ h)))
    ]

only_below : (content : Content) (test : Package → Bool) (n i : ℕ) → Contains (places_below content test n) i
    → IsPlace content test n i
only_below content test zero i c = absurd (in_none i c)
only_below content test (suc n) i c =
    let last = cond (passes test (slice_get content n)) (n ∷ []) [] in
    elim (Contains-append_cases (places_below content test n) last i c) [
      | inl c ↦ let p = only_below content test n i c in (p.0, (let lt = p.1 in omega (arith, lt)))
      | inr c ↦
          let p = of_cond (passes test (slice_get content n)) n i c in
          (ap (λ i. passes test (slice_get content i)) (sym p.1) ∙ p.0, (let here = p.1 in omega (arith, here)))
    ]

holds_below : (content : Content) (test : Package → Bool) (i : ℕ) → passes test (slice_get content i) ≡ true
    → i < length content
holds_below [] test i h = absurd (true≢false (sym h))
holds_below (p ∷ ps) test zero h = omega arith
holds_below (p ∷ ps) test (suc i) h = let lt = holds_below ps test i h in omega (arith, lt)

pub roots_within : (content : Content) (test : Package → Bool) (roots : List ℕ)
    → roots ≡ places_below content test (length content) → All (λ i. i < length content) roots
roots_within content test roots e k d lt =
    (only_below content test (length content) (get_or roots k d)
    (subst (λ js. Contains js (get_or roots k d)) e (Contains-get_or roots k d lt))).1

-- ---- the beginning

none_seen : (n i : ℕ) → has (replicate n false) i ≡ true → ⊥
none_seen zero i e = true≢false (sym e)
none_seen (suc n) zero e = true≢false (sym e)
none_seen (suc n) (suc i) e = none_seen n i e

all_unseen : (n : ℕ) → unmarked (replicate n false) ≡ n
all_unseen zero = refl
all_unseen (suc n) = let ih = all_unseen n in omega (arith, ih)

none_at : {P : Type 0} (k : ℕ) (v : Visit) → ◌≡◌ {A = Option Visit} (slice_get [] k) (Some v) → P
none_at k v e = absurd (none-some v e)

module _ (content : Content) (begins : Package → Bool) where
  untouched : IsSearching content begins 0 (replicate (length content) false) []
  untouched = record {
    within = omega arith;
    size = length-replicate (length content) false;
    count = let all = all_unseen (length content) in omega (arith, all);
    known = λ i e. absurd (none_seen (length content) i e);
    led = λ k v at. none_at k v at;
    sorted = λ k l u v le at_k at_l. none_at l v at_l;
    shallow = λ k v at. none_at k v at;
    near = λ k u v at_k at. none_at k u at_k;
    closed = λ k v lt at j listed. none_at k v at;
  }

  -- the packages that begin are visited
  begun : (roots : List ℕ) → roots ≡ places_below content begins (length content)
      → IsSearching content begins 0 (seen_with (replicate (length content) false) roots)
      (visited 0 0 (replicate (length content) false) [] roots)
      × AreBegun content begins (visited 0 0 (replicate (length content) false) [] roots)
  begun roots e =
      let only : (j : ℕ) → is_in roots j ≡ true → IsPlace content begins (length content) j =
      λ j h. only_below content begins (length content) j
      (subst (λ js. Contains js j) e (contains_from_in roots j h)) in
      let may : MayCome content begins 0 [] 0 0 roots = record {
        inside = λ j h. (only j h).1;
        led = λ j h. (only j h).0;
        last = λ k u at. none_at k u at;
        near = λ v at. none_at 0 v at;
        deep = omega arith;
      } in
      let f = followed content begins 0 0 0 roots (replicate (length content) false) [] untouched may in (
        f.searching,
        λ i h. f.all i (in_from_contains roots i
            (subst (λ js. Contains js i) (sym e)
            (all_below content begins (length content) i (holds_below content begins i h) h))),
      )

  pub begun_by : (seen after : List Bool) (visits then : List Visit) (roots : List ℕ)
      → seen ≡ replicate (length content) false → visits ≡ []
      → roots ≡ places_below content begins (length content)
      → after ≡ seen_with seen roots → then ≡ visited 0 0 seen visits roots
      → IsSearching content begins 0 after then × AreBegun content begins then
  begun_by seen after visits then roots is_seen is_none are_roots is_after is_then =
      rw (is_after, is_then, is_seen, is_none) (begun roots are_roots)

-- ---- one more visit is followed

module _ (content : Content) (begins : Package → Bool) (next : ℕ) (seen : List Bool) (visits : List Visit)
    (is : IsContent content) (s : IsSearching content begins next seen visits) (v : Visit)
    (at : slice_get visits next ≡ Some v) where
  abbrev list : List ℕ
  list = list_if (slice_get content v.place)

  may_follow : MayCome content begins next visits next (suc v.depth) list
  may_follow = record {
    inside = λ j e. listed_within content is v.place j e;
    led = λ j e. (v, at, refl, e);
    last = λ k u at_k. s.near k u v at_k at;
    near = λ w at_w. let same = ap (λ (v : Visit). v.depth) (same_Some v w (sym at ∙ at_w)) in omega (arith, same);
    deep = let le = s.shallow next v at in let lt = slice_get_within visits next v at in omega (arith, le, lt);
  }

  abbrev IsAfter : List Bool → List Visit → Type 0
  IsAfter seen' visits' = IsSearching content begins (suc next) seen' visits'
      × ((k : ℕ) (u : Visit) → slice_get visits k ≡ Some u → slice_get visits' k ≡ Some u)

  after : (seen' : List Bool) (visits' : List Visit)
      → Followed content begins next visits (suc v.depth) list seen' visits' → IsAfter seen' visits'
  after seen' visits' f =
      let t = f.searching in
      let there = f.stays next v at in
      let inside = slice_get_within visits' next v there in
      let searching : IsSearching content begins (suc next) seen' visits' = record {
        within = omega (arith, inside);
        size = t.size;
        count = t.count;
        known = t.known;
        led = t.led;
        sorted = t.sorted;
        shallow = t.shallow;
        near = λ k u w at_k at_w.
            let le = t.near k u v at_k there in
            let more = t.sorted next (suc next) v w (omega arith) there at_w in
            omega (arith, le, more);
        closed = λ k u lt at_k j listed. elim (cases_lt k next) [
          | inl lt ↦ t.closed k u lt at_k j listed
          | inr ge ↦
              let here : k ≡ next = omega (arith, lt, ge) in
              let same : v ≡ u = same_Some v u (sym there ∙ ap (slice_get visits') (sym here) ∙ at_k) in
              subst (λ (u : Visit). IsVisited visits' j (suc u.depth)) same
              (f.all j (ap (λ (u : Visit). lists content u.place j) same ∙ listed))
        ];
      } in
      (searching, f.stays)

  pub stepped : (depth : ℕ) → suc v.depth ≡ depth
      → IsAfter (seen_with seen list) (visited next depth seen visits list)
  stepped depth e =
      subst (λ d. IsAfter (seen_with seen list) (visited next d seen visits list)) e
      (after (seen_with seen list) (visited next (suc v.depth) seen visits list)
      (followed content begins next next (suc v.depth) list seen visits s may_follow))

pub stepped_by : (content : Content) (begins : Package → Bool) (next : ℕ) (seen after : List Bool)
    (visits then : List Visit) (v : Visit) (list : List ℕ) → IsContent content
    → IsSearching content begins next seen visits → AreBegun content begins visits → slice_get visits next ≡ Some v
    → list ≡ list_if (slice_get content v.place)
    → after ≡ seen_with seen list → then ≡ visited next (v.depth + 1) seen visits list
    → IsSearching content begins (next + 1) after then × AreBegun content begins then
stepped_by content begins next seen after visits then v list is s all at is_list is_after is_then =
    let one : suc next ≡ next + 1 = omega arith in
    let step = stepped content begins next seen visits is s v at (v.depth + 1) (omega arith) in
    rw (is_after, is_then, is_list) (
      subst (λ n. IsSearching content begins n (seen_with seen (list_if (slice_get content v.place)))
          (visited next (v.depth + 1) seen visits (list_if (slice_get content v.place)))) one step.0,
      λ i h. let f = all i h in (f.0, f.1, step.1 f.0 f.1 f.2, f.3, f.4),
    )

-- ---- the end

pub searched : (content : Content) (begins : Package → Bool) (next : ℕ) (seen : List Bool) (visits : List Visit)
    → IsSearching content begins next seen visits → AreBegun content begins visits → length visits ≤ next
    → IsSearched content begins visits
searched content begins next seen visits s all none = record {
  begun = all;
  led = s.led;
  sorted = s.sorted;
  closed = λ k v at j listed.
      s.closed k v (let lt = slice_get_within visits k v at in omega (arith, lt, none)) at j listed;
}

-- ---- the first element that passes

module _ {X : Type 0} (p : X → Bool) where
  abbrev IsFirst : List X → X → Type 0
  IsFirst xs x = (k : ℕ) × (slice_get xs k ≡ Some x) × (p x ≡ true)
      × ((l : ℕ) (y : X) → slice_get xs l ≡ Some y → p y ≡ true → k ≤ l)

  later : (z : X) (xs : List X) (k : ℕ) → p z ≡ false
      → ((l : ℕ) (y : X) → slice_get xs l ≡ Some y → p y ≡ true → k ≤ l)
      → (l : ℕ) (y : X) → slice_get (z ∷ xs) l ≡ Some y → p y ≡ true → suc k ≤ l
  later z xs k fails first zero y at h = absurd (both_ways (p y) (ap p (sym (same_Some z y at)) ∙ fails) h)
  later z xs k fails first (suc l) y at h = let le = first l y at h in omega (arith, le)

  pub first_passes : (xs : List X) (x : X) → find p xs ≡ Some x → IsFirst xs x
  first_passes [] x e = absurd (none-some x e)
  first_passes (z ∷ xs) x e = by (p z) refl e (λ e. first_passes xs x e) where
    by : (b : Bool) → p z ≡ b → cond b (Some z) (find p xs) ≡ Some x
        → (find p xs ≡ Some x → IsFirst xs x) → IsFirst (z ∷ xs) x
    by true passed e rest = (zero, e, ap p (sym (same_Some z x e)) ∙ passed, λ l y at h. omega arith)
    by false fails e rest = let r = rest e in (suc r.0, r.1, r.2, later z xs r.0 fails r.3)

  pub none_passes : (xs : List X) → find p xs ≡ None
      → (l : ℕ) (y : X) → slice_get xs l ≡ Some y → p y ≡ true → ⊥
  none_passes [] e l y at h = none-some y at
  none_passes (z ∷ xs) e l y at h = by (p z) refl e (λ e k at. none_passes xs e k y at h) l at where
    by : (b : Bool) → p z ≡ b → cond b (Some z) (find p xs) ≡ None
        → (find p xs ≡ None → (k : ℕ) → slice_get xs k ≡ Some y → ⊥)
        → (l : ℕ) → slice_get (z ∷ xs) l ≡ Some y → ⊥
    by true passed e rest l at = none-some z (sym e)
    by false fails e rest zero at = both_ways (p y) (ap p (sym (same_Some z y at)) ∙ fails) h
    by false fails e rest (suc l) at = rest e l at

-- ---- what is found

module _ (content : Content) (begins ends : Package → Bool) (visits : List Visit)
    (s : IsSearched content begins visits) where
  pub none_found : find (is_end content ends) visits ≡ None → HasNoWay content begins ends
  none_found e places = elim (cases_Bool (is_way content begins ends places)) [
    | inl y ↦
        let end = (way_ends content begins ends visits s places y).2 in
        absurd (none_passes (is_end content ends) visits e end.0 end.1 end.2 end.3)
    | inr n ↦ n
  ]

  pub found : (u : Visit) (places : List ℕ) → find (is_end content ends) visits ≡ Some u
      → is_way content begins ends places ≡ true → length places ≡ u.depth + 1
      → IsShortest content begins ends places
  found u places e way long = (
    way,
    λ others y.
        let first = first_passes (is_end content ends) visits u e in
        let w = way_ends content begins ends visits s others y in
        let end = w.2 in
        let le = s.sorted first.0 end.0 u end.1 (first.3 end.0 end.1 end.2 end.3) first.1 end.2 in
        let near = end.4 in
        omega (arith, le, long, w.1, near),
  )
