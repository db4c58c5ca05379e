-- Visits by number, and what one more does to a search.
use Rattle.std.proofs.Common.{◌≡◌, ◌<◌, ◌≤◌, ◌||◌, ℕ, zero, suc, nat_eq, Bool, true, false, List, [], ◌∷◌}
use Rattle.std.proofs.Common.{◌++◌, Some, length, set, refl, sym, ap, subst, subst₂, ◌∙◌, inl, inr, arith, true≢false}
use Rattle.std.specs.Prelude.{if◌then◌else◌}
use Rattle.std.specs.List.{slice_get}
use Rattle.std.proofs.lemmas.Bool.{cases_Bool, eq-eqb, eqb-true, or_cases}
use Rattle.std.proofs.lemmas.List.{length-append}
use Rattle.std.proofs.lemmas.Option.{slice_get_within}
use Rattle.facts.specs.inner.Chains.{has}
use Rattle.facts.proofs.WorklistLemmas.{new_or_old, one_fewer}
use Rattle.model.specs.Content.{Content, Package}
use Rattle.model.proofs.Places.{get_more, get_push, get_push_cases}
use Rattle.changes.specs.inner.Ways.{lists}
use Rattle.changes.specs.inner.Searches.{visit, visited, seen_with, is_in, IsLed, IsSeen, IsVisited, AreLed, AreSorted}
use Rattle.changes.specs.inner.Searches.{IsSearching}
use Rattle.changes.specs.declared.searching.Visit.{Visit}

-- ---- elements by number

pub each_push : {X : Type 0} (P : ℕ → X → Type 0) (xs : List X) (y : X)
    → ((k : ℕ) (x : X) → slice_get xs k ≡ Some x → P k x) → P (length xs) y
    → (k : ℕ) (x : X) → slice_get (xs ++ y ∷ []) k ≡ Some x → P k x
each_push P xs y old now k x at = elim (get_push_cases xs y k x at) [
  | inl at ↦ old k x at
  | inr p ↦ subst₂ P (sym p.0) p.1 now
]

-- ---- what is seen

length_set : (s : List Bool) (to : ℕ) → length (set s to true) ≡ length s
length_set [] to = refl
length_set (b ∷ bs) zero = refl
length_set (b ∷ bs) (suc to) = ap suc (length_set bs to)

-- ---- visits stay

pub led_more : (content : Content) (begins : Package → Bool) (visits more : List Visit) (place before depth : ℕ)
    → IsLed content begins visits place before depth → IsLed content begins (visits ++ more) place before depth
led_more content begins visits more place before zero led = led
led_more content begins visits more place before (suc depth) (v, at, is, listed) =
    (v, get_more visits more before v at, is, listed)

pub visited_more : (visits more : List Visit) (i depth : ℕ)
    → IsVisited visits i depth → IsVisited (visits ++ more) i depth
visited_more visits more i depth (k, v, at, is, near) = (k, v, get_more visits more k v at, is, near)

seen_more : (visits more : List Visit) (i : ℕ) → IsSeen visits i → IsSeen (visits ++ more) i
seen_more visits more i (k, v, at, is) = (k, v, get_more visits more k v at, is)

-- ---- one more visit

-- what may be visited next
pub record MayCome (content : Content) (begins : Package → Bool) (next : ℕ) (visits : List Visit)
    (before depth : ℕ) (js : List ℕ) : Type 0 where
  pub inside : (j : ℕ) → is_in js j ≡ true → j < length content
  pub led : (j : ℕ) → is_in js j ≡ true → IsLed content begins visits j before depth
  pub last : (k : ℕ) (u : Visit) → slice_get visits k ≡ Some u → u.depth ≤ depth
  pub near : (v : Visit) → slice_get visits next ≡ Some v → depth ≤ suc v.depth
  pub deep : depth ≤ length visits

pub in_first : (j : ℕ) (js : List ℕ) → is_in (j ∷ js) j ≡ true
in_first j js = ap (λ b. b || is_in js j) (eq-eqb j j refl)

pub in_rest : (t : ℕ) (js : List ℕ) (j : ℕ) → is_in js j ≡ true → is_in (t ∷ js) j ≡ true
in_rest t js j e = elim (cases_Bool (nat_eq t j)) [
  | inl y ↦ ap (λ b. b || is_in js j) y
  | inr n ↦ ap (λ b. b || is_in js j) n ∙ e
]

-- the first may be passed over
may_rest : (content : Content) (begins : Package → Bool) (next : ℕ) (visits : List Visit)
    (before depth place : ℕ) (js : List ℕ) → MayCome content begins next visits before depth (place ∷ js)
    → MayCome content begins next visits before depth js
may_rest content begins next visits before depth place js may = record {
  inside = λ j e. may.inside j (in_rest place js j e);
  led = λ j e. may.led j (in_rest place js j e);
  last = may.last;
  near = may.near;
  deep = may.deep;
}

module _ (content : Content) (begins : Package → Bool) (next : ℕ) (seen : List Bool) (visits : List Visit)
    (s : IsSearching content begins next seen visits) (before depth place : ℕ) (js : List ℕ)
    (may : MayCome content begins next visits before depth (place ∷ js)) where
  abbrev new : Visit
  new = visit before depth place

  abbrev all : List Visit
  all = visits ++ new ∷ []

  all_last : (k : ℕ) (u : Visit) → slice_get all k ≡ Some u → u.depth ≤ depth
  all_last = each_push (λ k u. u.depth ≤ depth) visits new may.last (omega arith)

  all_led : AreLed content begins all
  all_led = each_push (λ k v. IsLed content begins all v.place v.before v.depth) visits new
      (λ k v at. led_more content begins visits (new ∷ []) v.place v.before v.depth (s.led k v at))
      (led_more content begins visits (new ∷ []) place before depth (may.led place (in_first place js)))

  all_sorted : AreSorted all
  all_sorted k l u v le at_k at_l = elim (get_push_cases visits new l v at_l) [
    | inr p ↦ subst (λ (v : Visit). u.depth ≤ v.depth) p.1 (all_last k u at_k)
    | inl at_l ↦ elim (get_push_cases visits new k u at_k) [
      | inl at_k ↦ s.sorted k l u v le at_k at_l
      | inr p ↦ absurd (omega (arith, slice_get_within visits l v at_l, le, p.0))
    ]
  ]

  all_near : (k : ℕ) (u v : Visit) → slice_get all k ≡ Some u → slice_get all next ≡ Some v → u.depth ≤ suc v.depth
  all_near k u v at_k at = elim (get_push_cases visits new next v at) [
    | inr p ↦ subst (λ (v : Visit). u.depth ≤ suc v.depth) p.1 (let le = all_last k u at_k in omega (arith, le))
    | inl at ↦ each_push (λ k u. u.depth ≤ suc v.depth) visits new (λ k u at_k. s.near k u v at_k at) (may.near v at)
        k u at_k
  ]

  all_closed : (k : ℕ) (v : Visit) → k < next → slice_get all k ≡ Some v
      → (j : ℕ) → lists content v.place j ≡ true → IsVisited all j (suc v.depth)
  all_closed k v lt at j listed = elim (get_push_cases visits new k v at) [
    | inl at ↦ visited_more visits (new ∷ []) j (suc v.depth) (s.closed k v lt at j listed)
    | inr p ↦ absurd (omega (arith, s.within, lt, p.0))
  ]

  pushed : has seen place ≡ false → IsSearching content begins next (set seen place true) all
  pushed unseen =
      let inside = may.inside place (in_first place js) in
      let fewer = one_fewer seen place (omega (arith, inside, s.size)) unseen in
      let longer = length-append visits (new ∷ []) in
      record {
        within = omega (arith, s.within, longer);
        size = length_set seen place ∙ s.size;
        count = omega (arith, fewer, longer, s.count);
        known = λ i h. elim (new_or_old seen place i h) [
          | inl is ↦ (length visits, new, get_push visits new, is)
          | inr h ↦ seen_more visits (new ∷ []) i (s.known i h)
        ];
        led = all_led;
        sorted = all_sorted;
        shallow = each_push (λ k v. v.depth ≤ k) visits new s.shallow may.deep;
        near = all_near;
        closed = all_closed;
      }

  may_more : MayCome content begins next all before depth js
  may_more = record {
    inside = λ j e. may.inside j (in_rest place js j e);
    led = λ j e. led_more content begins visits (new ∷ []) j before depth (may.led j (in_rest place js j e));
    last = all_last;
    near = λ v at. elim (get_push_cases visits new next v at) [
      | inl at ↦ may.near v at
      | inr p ↦ subst (λ (v : Visit). depth ≤ suc v.depth) p.1 (omega arith)
    ];
    deep = let longer = length-append visits (new ∷ []) in omega (arith, may.deep, longer);
  }

-- ---- the visits of a list

pub record Followed (content : Content) (begins : Package → Bool) (next : ℕ) (visits : List Visit) (depth : ℕ)
    (js : List ℕ) (seen' : List Bool) (visits' : List Visit) : Type 0 where
  pub searching : IsSearching content begins next seen' visits'
  pub stays : (k : ℕ) (v : Visit) → slice_get visits k ≡ Some v → slice_get visits' k ≡ Some v
  pub all : (j : ℕ) → is_in js j ≡ true → IsVisited visits' j depth

module _ (content : Content) (begins : Package → Bool) (next before depth : ℕ) where
  abbrev Ends : List Visit → List ℕ → List Bool → List Visit → Type 0
  Ends visits js seen' visits' = Followed content begins next visits depth js seen' visits'

  -- what was seen is visited
  seen_visited : (seen : List Bool) (visits : List Visit) (js : List ℕ) → IsSearching content begins next seen visits
      → MayCome content begins next visits before depth js
      → (i : ℕ) → has seen i ≡ true → IsVisited visits i depth
  seen_visited seen visits js s may i h = let f = s.known i h in (f.0, f.1, f.2, f.3, may.last f.0 f.1 f.2)

  passed_over : (seen : List Bool) (visits : List Visit) (place : ℕ) (js : List ℕ)
      → IsSearching content begins next seen visits → MayCome content begins next visits before depth (place ∷ js)
      → has seen place ≡ true → (seen' : List Bool) (visits' : List Visit)
      → Ends visits js seen' visits' → Ends visits (place ∷ js) seen' visits'
  passed_over seen visits place js s may h seen' visits' f = record {
    searching = f.searching;
    stays = f.stays;
    all = λ j e. elim (or_cases (nat_eq place j) (is_in js j) e) [
      | inl is ↦
          let v = seen_visited seen visits (place ∷ js) s may place h in
          (v.0, v.1, f.stays v.0 v.1 v.2, v.3 ∙ eqb-true place j is, v.4)
      | inr e ↦ f.all j e
    ];
  }

  added : (visits : List Visit) (place : ℕ) (js : List ℕ) (seen' : List Bool) (visits' : List Visit)
      → Ends (visits ++ visit before depth place ∷ []) js seen' visits' → Ends visits (place ∷ js) seen' visits'
  added visits place js seen' visits' f =
      let new : Visit = visit before depth place in
      record {
        searching = f.searching;
        stays = λ k v at. f.stays k v (get_more visits (new ∷ []) k v at);
        all = λ j e. elim (or_cases (nat_eq place j) (is_in js j) e) [
          | inl is ↦
              (length visits, new, f.stays (length visits) new (get_push visits new), eqb-true place j is, omega arith)
          | inr e ↦ f.all j e
        ];
      }

  pub followed : (js : List ℕ) (seen : List Bool) (visits : List Visit) → IsSearching content begins next seen visits
      → MayCome content begins next visits before depth js
      → Ends visits js (seen_with seen js) (visited before depth seen visits js)
  unfolding visited seen_with
  followed [] seen visits s may =
      record { searching = s; stays = λ k v at. at; all = λ j e. absurd (true≢false (sym e)) }
  followed (place ∷ js) seen visits s may = by (has seen place) refl (λ t u. followed js t u) where
    by : (b : Bool) → has seen place ≡ b
        → ((t : List Bool) (u : List Visit) → IsSearching content begins next t u
        → MayCome content begins next u before depth js → Ends u js (seen_with t js) (visited before depth t u js))
        → Ends visits (place ∷ js) (if b then seen_with seen js else seen_with (set seen place true) js)
        (if b then visited before depth seen visits js
        else visited before depth (set seen place true) (visits ++ visit before depth place ∷ []) js)
    by true e rest = passed_over seen visits place js s may e (seen_with seen js) (visited before depth seen visits js)
        (rest seen visits s (may_rest content begins next visits before depth place js may))
    by false e rest =
        let all : List Visit = visits ++ visit before depth place ∷ [] in
        added visits place js (seen_with (set seen place true) js) (visited before depth (set seen place true) all js)
        (rest (set seen place true) all (pushed content begins next seen visits s before depth place js may e)
        (may_more content begins next seen visits s before depth place js may))
