-- Terms without the full ones, sorted, are the incompatibility that they make.
use Rattle.std.proofs.Common.{◌≡◌, ◌≢◌, ℕ, zero, suc, ◌<◌, ◌≤◌, Bool, true, false, cond, eqb, not, List, [], ◌∷◌}
use Rattle.std.proofs.Common.{length, get_or, All, Option, Some, None, refl, ap, sym, ◌∙◌, subst, arith, eq-eqb, inl}
use Rattle.std.proofs.Common.{inr}
use Rattle.std.proofs.lemmas.Bool.{cases_Bool, cases_eq, ne_eqb, not-true}
use Rattle.std.proofs.lemmas.List.{get_or_default, length-map}
use Rattle.std.proofs.lemmas.List.Elements.{filter_passes}
use Rattle.std.proofs.lemmas.List.Recursion.{is_sum_by}
use Rattle.std.proofs.lemmas.List.Sorted.{All-permutation, Contains-permutation, IsPermutation-map}
use Rattle.std.proofs.lemmas.List.Sorted.{sum_by-IsPermutation}
use Rattle.std.specs.List.{filter}
use Rattle.std.specs.List.Sorted.{IsNonDecreasingBy, IsPermutation}
use Rattle.version_sets.specs.Sets.{Members, is_full}
use Rattle.terms.specs.Terms.{TermView, term_view, terms_view}
use Rattle.terms.specs.declared.term.Term.{Term}
use Rattle.incompatibilities.specs.Incompatibilities.{AllPast, IsMadeOf, IsRising, NoneFull, OneEach, states_at}
use Rattle.incompatibilities.specs.Incompatibilities.{terms_on, unless_full}
use Rattle.incompatibilities.proofs.Lookups.{at_first, at_later, not_full}

abbrev says_much : TermView → Bool
says_much t = not (is_full t.states)

-- how many terms stand at a vertex: the same in any order
on_is : (v : ℕ) (ts us : List TermView) → IsPermutation ts us → terms_on v us ≡ terms_on v ts
on_is v ts us p =
    let f : TermView → ℕ = λ t. cond (eqb t.vertex v) 1 0 in
    is_sum_by (terms_on v) f refl (λ _ _. refl) us ∙ sum_by-IsPermutation f ts us p
    ∙ sym (is_sum_by (terms_on v) f refl (λ _ _. refl) ts)

on_here : (v : ℕ) (t : TermView) (ts : List TermView) → t.vertex ≡ v → terms_on v (t ∷ ts) ≡ suc (terms_on v ts)
on_here v t ts e = rw (eq-eqb t.vertex v e) (omega arith)

on_later : (v : ℕ) (t : TermView) (ts : List TermView) → t.vertex ≢ v → terms_on v (t ∷ ts) ≡ terms_on v ts
on_later v t ts o = rw (ne_eqb t.vertex v o) (omega arith)

-- a vertex with no term
none_on : (v : ℕ) (ts : List TermView) → terms_on v ts ≡ 0 → states_at ts v ≡ None
none_on v [] e = refl
none_on v (t ∷ ts) e = elim (cases_eq t.vertex v) [
  | inl s ↦ absurd (omega (arith, on_here v t ts s))
  | inr o ↦ at_later t ts v o ∙ none_on v ts (omega (arith, on_later v t ts o))
]

on_none : (v : ℕ) (ts : List TermView) → states_at ts v ≡ None → terms_on v ts ≡ 0
on_none v [] e = refl
on_none v (t ∷ ts) e = elim (cases_eq t.vertex v) [
  | inl s ↦ (let clash : Some t.states ≡ None = sym (at_first t ts v s) ∙ e in cc)
  | inr o ↦ on_later v t ts o ∙ on_none v ts (sym (at_later t ts v o) ∙ e)
]

-- a vertex with one
on_some : (v : ℕ) (ts : List TermView) (k : ℕ) (d : TermView) → k < length ts
    → (get_or ts k d).vertex ≡ v → 0 < terms_on v ts
on_some v [] k d within e = absurd (omega arith)
on_some v (t ∷ ts) zero d within e = omega (arith, on_here v t ts e)
on_some v (t ∷ ts) (suc k) d within e = elim (cases_eq t.vertex v) [
  | inl s ↦ omega (arith, on_here v t ts s)
  | inr o ↦ omega (arith, on_later v t ts o, on_some v ts k d (omega arith) e)
]

found_at : (v : ℕ) (ts : List TermView) (k : ℕ) (d : TermView) → terms_on v ts ≤ 1 → k < length ts
    → (get_or ts k d).vertex ≡ v → states_at ts v ≡ Some (get_or ts k d).states
found_at v [] k d one within e = absurd (omega arith)
found_at v (t ∷ ts) zero d one within e = at_first t ts v e
found_at v (t ∷ ts) (suc k) d one within e = elim (cases_eq t.vertex v) [
  | inl s ↦ absurd (omega (arith, on_here v t ts s, on_some v ts k d (omega arith) e))
  | inr o ↦ at_later t ts v o ∙ found_at v ts k d (omega (arith, on_later v t ts o)) (omega arith) e
]

where_found : (v : ℕ) (ts : List TermView) (x : Members) (d : TermView) → states_at ts v ≡ Some x
    → (k : ℕ) × (k < length ts) × ((get_or ts k d).vertex ≡ v) × ((get_or ts k d).states ≡ x)
where_found v [] x d e = cc
where_found v (t ∷ ts) x d e = elim (cases_eq t.vertex v) [
  | inl s ↦ (zero, omega arith, s, (let f : Some t.states ≡ Some x = sym (at_first t ts v s) ∙ e in cc))
  | inr o ↦ (let r = where_found v ts x d (sym (at_later t ts v o) ∙ e) in
      (suc r.0, (let l : r.0 < length ts = r.1 in omega arith), r.2, r.3))
]

-- look-ups are the same in any order
same_lookups : (ts us : List TermView) → IsPermutation ts us → OneEach ts → (v : ℕ) → states_at us v ≡ states_at ts v
same_lookups ts us p one v = by (states_at ts v) refl
  where
    here : terms_on v us ≤ 1
    here = let o : terms_on v ts ≤ 1 = one v in omega (arith, on_is v ts us p)

    by : (o : Option Members) → states_at ts v ≡ o → states_at us v ≡ states_at ts v
    by None e = none_on v us (on_is v ts us p ∙ on_none v ts e) ∙ sym e
    by (Some x) e =
        let d : TermView = record { vertex = v; states = x } in
        let r = where_found v ts x d e in
        let t : TermView = get_or ts r.0 d in
        let there = Contains-permutation ts us t p (r.0, r.1, get_or_default ts r.0 t d r.1) in
        found_at v us there.0 t here there.1 (ap (λ (u : TermView). u.vertex) there.2 ∙ r.2)
        ∙ ap (λ (u : TermView). Some u.states) there.2 ∙ ap Some r.3 ∙ sym e

-- without the full ones
kept_on : (v : ℕ) (ts : List TermView) → terms_on v (filter says_much ts) ≤ terms_on v ts
kept_on v [] = omega arith
kept_on v (t ∷ ts) = step (says_much t) (filter says_much ts) (kept_on v ts)
  where
    step : (b : Bool) (us : List TermView) → terms_on v us ≤ terms_on v ts
        → terms_on v (cond b (t ∷ us) us) ≤ terms_on v (t ∷ ts)
    step true us le = omega (arith, le)
    step false us le = omega (arith, le)

dropped : (t : TermView) (us : List TermView) → is_full t.states ≡ true → cond (says_much t) (t ∷ us) us ≡ us
dropped t us e = rw e refl

not_dropped : (t : TermView) (us : List TermView) → is_full t.states ≡ false → cond (says_much t) (t ∷ us) us ≡ t ∷ us
not_dropped t us e = rw e refl

kept_lookups : (v : ℕ) (ts : List TermView) → terms_on v ts ≤ 1
    → states_at (filter says_much ts) v ≡ unless_full (states_at ts v)
kept_lookups v [] one = refl
kept_lookups v (t ∷ ts) one = elim (cases_eq t.vertex v) [
  | inl s ↦ elim (cases_Bool (is_full t.states)) [
    | inl e ↦
        ap (λ l. states_at l v) (dropped t (filter says_much ts) e)
        ∙ none_on v (filter says_much ts) (omega (arith, kept_on v ts, on_here v t ts s))
        ∙ sym (ap unless_full (at_first t ts v s) ∙ is_dropped t.states e)
    | inr e ↦
        ap (λ l. states_at l v) (not_dropped t (filter says_much ts) e) ∙ at_first t (filter says_much ts) v s
        ∙ sym (ap unless_full (at_first t ts v s) ∙ not_full t.states e)
  ]
  | inr o ↦ elim (cases_Bool (is_full t.states)) [
    | inl e ↦
        ap (λ l. states_at l v) (dropped t (filter says_much ts) e)
        ∙ kept_lookups v ts (omega (arith, on_later v t ts o))
        ∙ ap unless_full (sym (at_later t ts v o))
    | inr e ↦
        ap (λ l. states_at l v) (not_dropped t (filter says_much ts) e) ∙ at_later t (filter says_much ts) v o
        ∙ kept_lookups v ts (omega (arith, on_later v t ts o))
        ∙ ap unless_full (sym (at_later t ts v o))
  ]
]
  where
    is_dropped : (s : Members) → is_full s ≡ true → unless_full (Some s) ≡ None
    is_dropped s e = rw e refl

-- rising, if none falls and each vertex has one
past_from : (v : ℕ) (ts : List TermView)
    → ((k : ℕ) (d : TermView) → k < length ts → v < (get_or ts k d).vertex) → AllPast v ts
past_from v [] far = tt
past_from v (t ∷ ts) far = (far 0 t (omega arith), past_from v ts (λ k d within. far (suc k) d (omega arith)))

rising_from : (ts : List TermView) → IsNonDecreasingBy (λ (t : TermView). t.vertex) ts → OneEach ts → IsRising ts
rising_from [] sorted one = tt
rising_from (t ∷ ts) sorted one = (
  past_from t.vertex ts (λ k d within. elim (cases_eq (get_or ts k d).vertex t.vertex) [
    | inl e ↦ (let o : terms_on t.vertex (t ∷ ts) ≤ 1 =
        one t.vertex in absurd (omega (arith, on_here t.vertex t ts refl, on_some t.vertex ts k d within e)))
    | inr o ↦ (let le : t.vertex ≤ (get_or ts k d).vertex = sorted 0 (suc k) d (omega arith) (omega arith) in
        let ne : (get_or ts k d).vertex ≢ t.vertex = o in omega arith)
  ]),
  rising_from ts (λ i j d order within. sorted (suc i) (suc j) d (omega arith) (omega arith))
      (λ v. let o : terms_on v (t ∷ ts) ≤ 1 = one v in omega (arith, o)),
)

none_full_from : (ts : List TermView) → All (λ t. says_much t ≡ true) ts → NoneFull ts
none_full_from [] all = tt
none_full_from (t ∷ ts) all =
    (not-true (is_full t.states) (all 0 t (omega arith)), none_full_from ts (λ k d within. all (suc k) d (omega arith)))

-- the terms of a struct
filtered_view : {S : Type 0} (tests : S → Members) (ts : List (Term S))
    → terms_view tests (filter (λ t. not (is_full (tests t.states))) ts) ≡ filter says_much (terms_view tests ts)
filtered_view tests [] = refl
filtered_view {S} tests (t ∷ ts) =
    step (not (is_full (tests t.states))) (filter (λ (u : Term S). not (is_full (tests u.states))) ts)
    (filter says_much (terms_view tests ts)) (filtered_view tests ts)
  where
    step : (b : Bool) (us : List (Term S)) (vs : List TermView) → terms_view tests us ≡ vs
        → terms_view tests (cond b (t ∷ us) us) ≡ cond b (term_view tests t ∷ vs) vs
    step true us vs e = ap (λ l. term_view tests t ∷ l) e
    step false us vs e = e

viewed_order : {S : Type 0} (tests : S → Members) (ts : List (Term S)) → IsNonDecreasingBy (λ (t : Term S). t.vertex) ts
    → IsNonDecreasingBy (λ (t : TermView). t.vertex) (terms_view tests ts)
viewed_order {S} tests [] sorted i j d order within = absurd (omega arith)
viewed_order {S} tests (t ∷ ts) sorted i j d order within =
    let j_within : j < length (t ∷ ts) = viewed_within (t ∷ ts) within in
    rw (vertex_at (t ∷ ts) i d t (omega arith), vertex_at (t ∷ ts) j d t j_within) (sorted i j t order j_within)
  where
    viewed_within : (us : List (Term S)) → j < length (terms_view tests us) → j < length us
    viewed_within us h = rw (length-map) at h

    vertex_at : (us : List (Term S)) (k : ℕ) (d : TermView) (e : Term S) → k < length us
        → (get_or (terms_view tests us) k d).vertex ≡ (get_or us k e).vertex
    vertex_at [] k d e within = absurd (omega arith)
    vertex_at (u ∷ us) zero d e within = refl
    vertex_at (u ∷ us) (suc k) d e within = vertex_at us k d e (omega arith)

pub is_made : {S : Type 0} (tests : S → Members) (given kept sorted : List (Term S)) → OneEach (terms_view tests given)
    → kept ≡ filter (λ t. not (is_full (tests t.states))) given → IsPermutation kept sorted
    → IsNonDecreasingBy (λ (t : Term S). t.vertex) sorted
    → IsMadeOf (terms_view tests given) (terms_view tests sorted)
is_made {S} tests given kept sorted one dropped_is moved order =
    let view : List (Term S) → List TermView = terms_view tests in
    let kept_is : view kept ≡ filter says_much (view given) = ap view dropped_is ∙ filtered_view tests given in
    let moves : IsPermutation (view kept) (view sorted) = IsPermutation-map (term_view tests) kept sorted moved in
    let one_kept : OneEach (view kept) =
    λ v. (let o : terms_on v (view given) ≤ 1 = one v in let k : terms_on v (view kept) ≤ terms_on v (view given) =
    subst (λ l. terms_on v l ≤ terms_on v (view given)) (sym kept_is) (kept_on v (view given)) in omega arith) in
    let one_sorted : OneEach (view sorted) = λ v.
    (let o : terms_on v (view kept) ≤ 1 = one_kept v in omega (arith, on_is v (view kept) (view sorted) moves)) in
    record {
      is = record {
        rising = rising_from (view sorted) (viewed_order tests sorted order) one_sorted;
        none_full =
            none_full_from (view sorted) (All-permutation (λ t. says_much t ≡ true) (view kept) (view sorted) moves
            (subst (All (λ t. says_much t ≡ true)) (sym kept_is) (filter_passes says_much (view given))));
      };
      each = λ v. same_lookups (view kept) (view sorted) moves one_kept v ∙ ap (λ l. states_at l v) kept_is
          ∙ kept_lookups v (view given) (one v);
    }
