-- What is marked ahead from the root and back from what is meant lies on ways, and the other way round.
use Rattle.std.proofs.Common.{◌≡◌, ◌<◌, ◌≤◌, ◌⊎◌, ◌↔◌, ◌||◌, ◌&&◌, ℕ, zero, suc, nat_eq, Bool, true, false, List, []}
use Rattle.std.proofs.Common.{◌∷◌, ◌++◌, Contains, map, length, refl, sym, ap, subst, ◌∙◌, inl, inr, arith, true≢false}
use Rattle.std.specs.List.{All, filter, slice_get}
use Rattle.std.proofs.lemmas.Bool.{and_from, and_parts, cases_lt, eqb-true, or_cases}
use Rattle.std.proofs.lemmas.List.{append_assoc, length-map}
use Rattle.std.proofs.lemmas.List.Elements.{All-append, All-map, All-nil, All-weaker}
use Rattle.std.proofs.lemmas.List.Elements.{Contains-append_cases, Contains-append_left, Contains-append_right}
use Rattle.facts.specs.declared.rule.Rule.{Rule}
use Rattle.facts.specs.inner.Chains.{AreBelow, IsGiven, has}
use Rattle.facts.specs.inner.Chains.IsGiven.{begins, follows}
use Rattle.model.proofs.Lists.{in_cons, in_map, in_none, to_map}
use Rattle.model.specs.Content.{Content, Package, list_if, passes}
use Rattle.model.specs.Order.{IsContent}
use Rattle.changes.specs.inner.OnWays.{AreBetween, AreOnWays, IsOnWay, all_pairs, are_both, pairs_at, pairs_below}
use Rattle.changes.specs.inner.OnWays.{rule, rules_ahead, rules_back}
use Rattle.changes.specs.inner.Searches.{is_in}
use Rattle.changes.specs.inner.Ways.{is_way, leads, lists}
use Rattle.changes.proofs.Searched.{list_within}
use Rattle.changes.proofs.Visiting.{in_first, in_rest}

-- ---- pairs and marks

-- marks by a test
marks_of : (test : Package → Bool) (content : Content) (i : ℕ)
    → has (map test content) i ≡ passes test (slice_get content i)
marks_of test [] i = refl
marks_of test (p ∷ ps) zero = refl
marks_of test (p ∷ ps) (suc i) = marks_of test ps i

in_pairs_at : (i : ℕ) (js : List ℕ) (p : ℕ × ℕ) → Contains (pairs_at i js) p → (p.0 ≡ i) × (is_in js p.1 ≡ true)
in_pairs_at i [] p c = absurd (in_none p c)
in_pairs_at i (j ∷ js) p c = elim (in_cons (i, j) p (pairs_at i js) c) [
  | inl e ↦ (
    sym (ap (λ (q : ℕ × ℕ). q.0) e),
    subst (λ k. is_in (j ∷ js) k ≡ true) (ap (λ (q : ℕ × ℕ). q.1) e) (in_first j js),
  )
  | inr c ↦ let r = in_pairs_at i js p c in (r.0, in_rest j js p.1 r.1)
]

to_pairs_at : (i : ℕ) (js : List ℕ) (j : ℕ) → is_in js j ≡ true → Contains (pairs_at i js) (i, j)
to_pairs_at i [] j e = absurd (true≢false (sym e))
to_pairs_at i (t ∷ js) j e = elim (or_cases (nat_eq t j) (is_in js j) e) [
  | inl is ↦ subst (λ j. Contains (pairs_at i (t ∷ js)) (i, j)) (eqb-true t j is) (zero, omega arith, refl)
  | inr e ↦ let c = to_pairs_at i js j e in (suc c.0, omega (arith, c.1), c.2)
]

in_pairs : (content : Content) (n : ℕ) (p : ℕ × ℕ) → Contains (pairs_below content n) p → lists content p.0 p.1 ≡ true
in_pairs content zero p c = absurd (in_none p c)
in_pairs content (suc n) p c =
    let js = list_if (slice_get content n) in
    elim (Contains-append_cases (pairs_below content n) (pairs_at n js) p c) [
      | inl c ↦ in_pairs content n p c
      | inr c ↦ let r = in_pairs_at n js p c in ap (λ i. lists content i p.1) r.0 ∙ r.1
    ]

to_pairs : (content : Content) (n i j : ℕ) → i < n → lists content i j ≡ true → Contains (pairs_below content n) (i, j)
to_pairs content zero i j lt e = absurd (omega (arith, lt))
to_pairs content (suc n) i j lt e =
    let js = list_if (slice_get content n) in
    elim (cases_lt i n) [
      | inl lt ↦ Contains-append_left (pairs_below content n) (pairs_at n js) (i, j) (to_pairs content n i j lt e)
      | inr ge ↦
          let here : n ≡ i = omega (arith, lt, ge) in
          Contains-append_right (pairs_below content n) (pairs_at n js) (i, j)
          (subst (λ i. Contains (pairs_at n js) (i, j)) here
          (to_pairs_at n js j (ap (λ i. lists content i j) here ∙ e)))
    ]

lists_below : (content : Content) (i j : ℕ) → lists content i j ≡ true → i < length content
lists_below [] i j e = absurd (true≢false (sym e))
lists_below (p ∷ ps) zero j e = omega arith
lists_below (p ∷ ps) (suc i) j e = let lt = lists_below ps i j e in omega (arith, lt)

to_all : (content : Content) (i j : ℕ) → lists content i j ≡ true → Contains (all_pairs content) (i, j)
to_all content i j e = to_pairs content (length content) i j (lists_below content i j e) e

-- the places of pairs are those of packages
pairs_inside : (content : Content) → IsContent content → (n : ℕ) → n ≤ length content
    → All (λ p. (p.0 < length content) × (p.1 < length content)) (pairs_below content n)
pairs_inside content is zero le = All-nil (λ p. (p.0 < length content) × (p.1 < length content))
pairs_inside content is (suc n) le =
    let js = list_if (slice_get content n) in
    All-append (λ p. (p.0 < length content) × (p.1 < length content)) (pairs_below content n) (pairs_at n js)
    (pairs_inside content is n (omega (arith, le)))
    (All-map (λ p. (p.0 < length content) × (p.1 < length content)) (λ j. (n, j)) js
    (All-weaker (λ t. t < length content) (λ j. (n < length content) × (j < length content))
    (λ j lt. (omega (arith, le), lt)) js (list_within (length content) content is.within n)))

module _ (content : Content) (is : IsContent content) (test : Package → Bool) where
  pub ahead_below : AreBelow (length (map test content)) (rules_ahead (all_pairs content))
  ahead_below = rw (length-map content test)
      (All-map (λ (r : Rule). (r.first < length content) × (r.second < length content) × (r.gives < length content))
      (λ p. rule p.0 p.1) (all_pairs content)
      (All-weaker (λ p. (p.0 < length content) × (p.1 < length content))
      (λ p. (p.0 < length content) × (p.0 < length content) × (p.1 < length content))
      (λ p h. (h.0, h.0, h.1)) (all_pairs content) (pairs_inside content is (length content) (omega arith))))

  pub back_below : AreBelow (length (map test content)) (rules_back (all_pairs content))
  back_below = rw (length-map content test)
      (All-map (λ (r : Rule). (r.first < length content) × (r.second < length content) × (r.gives < length content))
      (λ p. rule p.1 p.0) (all_pairs content)
      (All-weaker (λ p. (p.0 < length content) × (p.1 < length content))
      (λ p. (p.1 < length content) × (p.1 < length content) × (p.0 < length content))
      (λ p h. (h.1, h.1, h.0)) (all_pairs content) (pairs_inside content is (length content) (omega arith))))

-- ---- from marks to ways

module _ (content : Content) (starts ends : Package → Bool) where
  abbrev IsAhead : ℕ → Type 0
  IsAhead i = IsGiven (rules_ahead (all_pairs content)) (map starts content) i

  abbrev IsBack : ℕ → Type 0
  IsBack j = IsGiven (rules_back (all_pairs content)) (map ends content) j

  listed_ahead : (r : Rule) → Contains (rules_ahead (all_pairs content)) r → lists content r.first r.gives ≡ true
  listed_ahead r c =
      let q = in_map (λ (p : ℕ × ℕ). rule p.0 p.1) (all_pairs content) r c in
      subst (λ (r : Rule). lists content r.first r.gives ≡ true) q.2 (in_pairs content (length content) q.0 q.1)

  listed_back : (r : Rule) → Contains (rules_back (all_pairs content)) r → lists content r.gives r.first ≡ true
  listed_back r c =
      let q = in_map (λ (p : ℕ × ℕ). rule p.1 p.0) (all_pairs content) r c in
      subst (λ (r : Rule). lists content r.gives r.first ≡ true) q.2 (in_pairs content (length content) q.0 q.1)

  -- what goes on from what is ahead is the end of a way
  ahead_on : (i : ℕ) → IsAhead i → (js : List ℕ) → leads content ends i js ≡ true
      → (front : List ℕ) × (is_way content starts ends (front ++ i ∷ js) ≡ true)
  unfolding leads
  ahead_on i (begins j h) js on = (
    [],
    and_from (passes starts (slice_get content i)) (leads content ends i js)
        (sym (marks_of starts content i) ∙ h) on,
  )
  ahead_on i (follows r c f s) js on =
      let w = ahead_on r.first f (r.gives ∷ js)
      (and_from (lists content r.first r.gives) (leads content ends r.gives js) (listed_ahead r c) on) in (
        w.0 ++ r.first ∷ [],
        ap (is_way content starts ends) (append_assoc w.0 (r.first ∷ []) (r.gives ∷ js)) ∙ w.1,
      )

  back_on : (j : ℕ) → IsBack j → (back : List ℕ) × (leads content ends j back ≡ true)
  unfolding leads
  back_on j (begins i h) = ([], sym (marks_of ends content j) ∙ h)
  back_on j (follows r c f s) =
      let w = back_on r.first f in (
        r.first ∷ w.0,
        and_from (lists content r.gives r.first) (leads content ends r.first w.0) (listed_back r c) w.1,
      )

  -- ---- from ways to marks

  step_ahead : (i j : ℕ) → lists content i j ≡ true → IsAhead i → IsAhead j
  step_ahead i j e g =
      follows (rule i j) (to_map (λ (p : ℕ × ℕ). rule p.0 p.1) (all_pairs content) (i, j) (to_all content i j e)) g g

  step_back : (i j : ℕ) → lists content i j ≡ true → IsBack j → IsBack i
  step_back i j e g =
      follows (rule j i) (to_map (λ (p : ℕ × ℕ). rule p.1 p.0) (all_pairs content) (i, j) (to_all content i j e)) g g

  ahead_from : (i : ℕ) (xs : List ℕ) (j : ℕ) (rest : List ℕ) → IsAhead i
      → leads content ends i (xs ++ j ∷ rest) ≡ true → IsAhead j × (leads content ends j rest ≡ true)
  unfolding leads
  ahead_from i [] j rest g e =
      let parts = and_parts (lists content i j) (leads content ends j rest) e in
      (step_ahead i j parts.0 g, parts.1)
  ahead_from i (x ∷ xs) j rest g e =
      let parts = and_parts (lists content i x) (leads content ends x (xs ++ j ∷ rest)) e in
      ahead_from x xs j rest (step_ahead i x parts.0 g) parts.1

  begun : (i : ℕ) → passes starts (slice_get content i) ≡ true → IsAhead i
  begun i e = begins i (marks_of starts content i ∙ e)

  way_ahead : (front : List ℕ) (i : ℕ) (rest : List ℕ) → is_way content starts ends (front ++ i ∷ rest) ≡ true
      → IsAhead i × (leads content ends i rest ≡ true)
  way_ahead [] i rest e =
      let parts = and_parts (passes starts (slice_get content i)) (leads content ends i rest) e in
      (begun i parts.0, parts.1)
  way_ahead (x ∷ xs) i rest e =
      let parts =
      and_parts (passes starts (slice_get content x)) (leads content ends x (xs ++ i ∷ rest)) e in
      ahead_from x xs i rest (begun x parts.0) parts.1

  back_from : (j : ℕ) (back : List ℕ) → leads content ends j back ≡ true → IsBack j
  unfolding leads
  back_from j [] e = begins j (marks_of ends content j ∙ e)
  back_from j (t ∷ ts) e =
      let parts = and_parts (lists content j t) (leads content ends t ts) e in
      step_back j t parts.0 (back_from t ts parts.1)

  to_way : (i j : ℕ) → lists content i j ≡ true → IsAhead i → IsBack j → IsOnWay content starts ends i j
  unfolding leads
  to_way i j listed g h =
      let back = back_on j h in
      let front = ahead_on i g (j ∷ back.0)
      (and_from (lists content i j) (leads content ends j back.0) listed back.1) in
      (front.0, back.0, front.1)

  of_way : (i j : ℕ) → IsOnWay content starts ends i j → IsAhead i × IsBack j
  unfolding leads
  of_way i j (front, back, e) =
      let w = way_ahead front i (j ∷ back) e in
      (w.0, back_from j back (and_parts (lists content i j) (leads content ends j back) w.1).1)

  pub on_ways : (ahead back : List Bool) → ((i : ℕ) → (has ahead i ≡ true) ↔ IsAhead i)
      → ((j : ℕ) → (has back j ≡ true) ↔ IsBack j) → (pairs : List (ℕ × ℕ))
      → pairs ≡ filter (are_both ahead back) (all_pairs content) → AreOnWays content starts ends pairs
  on_ways ahead back goes comes pairs e = record {
    is_told = are_both ahead back;
    are_told = e;
    told_on_ways = λ i j listed. (
      (λ told.
          let parts = and_parts (has ahead i) (has back j) told in
          to_way i j listed ((goes i).0 parts.0) ((comes j).0 parts.1)),
      (λ way.
          let marks = of_way i j way in
          and_from (has ahead i) (has back j) ((goes i).1 marks.0) ((comes j).1 marks.1)),
    );
  }

pub on_ways_by : (content : Content) (starts ends : Package → Bool) (pairs : List (ℕ × ℕ)) (ahead back : List Bool)
    (found : List (ℕ × ℕ)) → pairs ≡ all_pairs content → ahead ≡ map starts content → back ≡ map ends content
    → AreBetween pairs ahead back found → AreOnWays content starts ends found
on_ways_by content starts ends pairs ahead back found are_pairs is_ahead is_back between =
    let b : AreBetween (all_pairs content) (map starts content) (map ends content) found =
    subst (λ ps. AreBetween ps (map starts content) (map ends content) found) are_pairs
    (subst (λ a. AreBetween pairs a (map ends content) found) is_ahead
    (subst (λ b. AreBetween pairs ahead b found) is_back between)) in
    on_ways content starts ends b.0 b.1 b.2 b.3 found b.4
