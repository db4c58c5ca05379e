-- What a search by an order says of lists that rise by it.
use Rattle.std.proofs.Common.{◌≡◌, ◌≢◌, ℕ, zero, suc, ◌<◌, Bool, true, false, ◌||◌, if◌then◌else◌, cond, List, [], ◌∷◌}
use Rattle.std.proofs.Common.{map, length, get_or, Option, Some, None, Ok, Err, is_some, refl, sym, ap, ◌∙◌, arith}
use Rattle.std.proofs.Common.{Ordering, inl, inr}
use Rattle.std.specs.Cmp.{IsTotalOrder}
use Rattle.std.specs.List.{All, AllPairs, AllByRecursion, list_any, find}
use Rattle.std.specs.List.Sorted.{IsBinarySearchResult, IsNonDecreasingBy, IsStrictlySortedBy}
use Rattle.std.specs.Ordering.{ordering_index, ordering_reverse}
use Rattle.std.specs.declared.cmp.Ordering.TheVariants.{Less, Equal}
use Rattle.std.proofs.lemmas.Bool.{cases_lt}
use Rattle.std.proofs.lemmas.Cmp.{tied_itself, alike_right}
use Rattle.model.specs.Vertices.{State, same_state, has_state}
use Rattle.model.proofs.Same.{state-same}
use Rattle.model.proofs.Tests.{beside}
use Rattle.model.proofs.InOrder.{sorted_pairs}
use Rattle.vertices.specs.Orders.{state_cmp}
use Rattle.vertices.proofs.OrderLaws.{state_total}
use Rattle.catalogue.proofs.Found.{less-other, greater-other}
use Rattle.vertices.specs.inner.RefViews.{state_ref_view, state_ref_views}
use Rattle.vertices.specs.declared.state.StateRef as declared

-- what a search found, if it passes the test
abbrev pub kept : {X : Type 0} → (X → Bool) → X → Option X
kept test x = if test x then Some x else None

none_found : {X : Type 0} (test : X → Bool) (xs : List X) → All (λ x. test x ≡ false) xs → find test xs ≡ None
none_found test [] h = refl
none_found test (x ∷ xs) h = ap (λ b. cond b (Some x) (find test xs)) (h zero x (omega arith))
    ∙ none_found test xs (λ k d inside. h (suc k) d (omega (arith, inside)))

-- the one that may pass
one_found : {X : Type 0} (test : X → Bool) (xs : List X) (i : ℕ) (y : X) → i < length xs → get_or xs i y ≡ y
    → ((k : ℕ) (d : X) → k < length xs → k ≢ i → test (get_or xs k d) ≡ false) → find test xs ≡ kept test y
one_found test [] i y inside is h = absurd (omega (arith, inside))
one_found test (x ∷ xs) zero y inside is h =
    ap (λ o. cond (test x) (Some x) o) (none_found test xs
    (λ k d within. h (suc k) d (omega (arith, within)) (λ e. omega (arith, e)))) ∙ ap (kept test) is
one_found test (x ∷ xs) (suc i) y inside is h =
    ap (λ b. cond b (Some x) (find test xs)) (h zero y (omega arith) (λ e. omega (arith, e)))
    ∙ one_found test xs i y (omega (arith, inside)) is
    (λ k d within other. h (suc k) d (omega (arith, within)) (λ e. other (omega (arith, e))))

module _ {X K : Type 0} (key : X → K) {cmp : K → K → Ordering} (o : IsTotalOrder cmp) (xs : List X)
    (w : K) (test : X → Bool)
    (passing : (x : X) → test x ≡ true → cmp (key x) w ≡ Equal)
    (rising : AllPairs (λ x y. cmp (key x) (key y) ≡ Less) xs) where
  rises : IsNonDecreasingBy (λ x. ordering_index (cmp (key x) w)) xs
  rises i j d le within = elim (cases_lt i j) [
    | inl less ↦ beside o (key (get_or xs i d)) (key (get_or xs j d)) w (rising i j d less within)
    | inr back ↦ let e : i ≡ j = omega arith in rw e (omega arith)
  ]

  fails : (x : X) → cmp (key x) w ≢ Equal → test x ≡ false
  fails x other = by (test x) refl
    where
      by : (b : Bool) → test x ≡ b → b ≡ false
      by false e = refl
      by true e = absurd (other (passing x e))

  -- a search that ends between two elements found none
  pub search_ends : (i : ℕ) → IsBinarySearchResult (λ x. cmp (key x) w) xs (Err i) → find test xs ≡ None
  search_ends i found =
      let split = found rises in
      none_found test xs (λ k d within. elim (cases_lt k i) [
        | inl less ↦ fails (get_or xs k d) (less-other (cmp (key (get_or xs k d)) w) (split.0 k d (omega arith) less))
        | inr back ↦ fails (get_or xs k d) (greater-other (cmp (key (get_or xs k d)) w) (split.1 k d back within))
      ])

  -- one that finds an element found the only one that may pass
  pub search_finds : (i : ℕ) → IsBinarySearchResult (λ x. cmp (key x) w) xs (Ok i) → i < length xs → (y : X)
      → get_or xs i y ≡ y → find test xs ≡ kept test y
  search_finds i found inside y is = one_found test xs i y inside is (λ k d within other. elim (cases_lt k i) [
    | inl less ↦ fails (get_or xs k d) (less-other (cmp (key (get_or xs k d)) w)
        (sym (alike_right o (key (get_or xs i d)) w (key (get_or xs k d)) (found d)) ∙ rising k i d less inside))
    | inr back ↦ elim (cases_lt i k) [
      | inl more ↦ fails (get_or xs k d) (greater-other (cmp (key (get_or xs k d)) w)
          (sym (alike_right o (key (get_or xs i d)) w (key (get_or xs k d)) (found d))
          ∙ o.antisymm (key (get_or xs k d)) (key (get_or xs i d))
          ∙ ap ordering_reverse (rising i k d more within)))
      | inr even ↦ absurd (other (omega (arith, back, even)))
    ]
  ])

-- whether some element passes is whether the first that does is found
pub any_found : {X : Type 0} (test : X → Bool) (xs : List X) → list_any test xs ≡ is_some (find test xs)
any_found test [] = refl
any_found test (x ∷ xs) = by (any_found test xs) (test x)
  where
    by : list_any test xs ≡ is_some (find test xs) → (b : Bool)
        → (b || list_any test xs) ≡ is_some (cond b (Some x) (find test xs))
    by rest true = refl
    by rest false = rest

pub any_map : {X Y : Type 0} (f : X → Y) (test : Y → Bool) (xs : List X)
    → list_any test (map f xs) ≡ list_any (λ x. test (f x)) xs
any_map f test [] = refl
any_map f test (x ∷ xs) = ap (λ b. test (f x) || b) (any_map f test xs)

pub kept-some : {X : Type 0} (test : X → Bool) (x : X) → is_some (kept test x) ≡ test x
kept-some test x = by (test x)
  where
    by : (b : Bool) → is_some (if b then Some x else None) ≡ b
    by true = refl
    by false = refl

each_map : {X Y : Type 0} (f : X → Y) (P : Y → Type 0) (ys : List X) → AllByRecursion P (map f ys)
    → AllByRecursion (λ y. P (f y)) ys
each_map f P [] h = tt
each_map f P (y ∷ ys) h = (h.0, each_map f P ys h.1)

sorted_by : {X Y : Type 0} (f : X → Y) (cmp : Y → Y → Ordering) (xs : List X) → IsStrictlySortedBy cmp (map f xs)
    → IsStrictlySortedBy (λ x y. cmp (f x) (f y)) xs
unfolding IsStrictlySortedBy
sorted_by f cmp [] h = tt
sorted_by f cmp (x ∷ xs) h = (each_map f (λ y. cmp (f x) y ≡ Less) xs h.0, sorted_by f cmp xs h.1)

pub sorted_map : {X Y : Type 0} (f : X → Y) (cmp : Y → Y → Ordering) (xs : List X) → IsStrictlySortedBy cmp (map f xs)
    → AllPairs (λ x y. cmp (f x) (f y) ≡ Less) xs
sorted_map f cmp xs h = sorted_pairs (λ x y. cmp (f x) (f y)) xs (sorted_by f cmp xs h)

-- ---- states in the written order

module _ (ss : List declared.StateRef) (w : State) (sorted : IsStrictlySortedBy state_cmp (state_ref_views ss)) where
  abbrev sought : declared.StateRef → Bool
  sought s = same_state w (state_ref_view s)

  tied : (s : declared.StateRef) → sought s ≡ true → state_cmp (state_ref_view s) w ≡ Equal
  tied s e = ap (λ r. state_cmp r w) (sym (state-same w (state_ref_view s) e)) ∙ tied_itself state_total w

  in_terms : has_state (state_ref_views ss) w ≡ is_some (find sought ss)
  in_terms = any_map state_ref_view (same_state w) ss ∙ any_found sought ss

  pub state_finds : (i : ℕ) → IsBinarySearchResult (λ s. state_cmp (state_ref_view s) w) ss (Ok i) → i < length ss
      → (y : declared.StateRef) → get_or ss i y ≡ y
      → same_state w (state_ref_view y) ≡ has_state (state_ref_views ss) w
  state_finds i found inside y is =
      sym (in_terms ∙ ap is_some (search_finds state_ref_view state_total ss w sought tied
      (sorted_map state_ref_view state_cmp ss sorted) i found inside y is) ∙ kept-some sought y)

  pub state_ends : (i : ℕ) → IsBinarySearchResult (λ s. state_cmp (state_ref_view s) w) ss (Err i)
      → false ≡ has_state (state_ref_views ss) w
  state_ends i found = sym (in_terms ∙ ap is_some (search_ends state_ref_view state_total ss w sought tied
      (sorted_map state_ref_view state_cmp ss sorted) i found))
