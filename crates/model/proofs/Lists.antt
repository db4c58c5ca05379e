-- What is in a list, in a filtered one and in a mapped one, and what holds of each two elements.
use Rattle.std.proofs.Common.{◌≡◌, ℕ, ◌<◌, zero, suc, List, [], ◌∷◌, map, filter, Bool, true, false, cond, ◌||◌}
use Rattle.std.proofs.Common.{Contains, Some, slice_get, refl, sym, ap, ◌∙◌, subst, subst₂, inl, inr, ◌⊎◌, arith}
use Rattle.std.proofs.Common.{true≢false}
use Rattle.std.specs.List.{list_any, list_all, All, AllPairs}
use Rattle.std.proofs.lemmas.List.Kept.{AllPairs-cons}
use Rattle.std.proofs.lemmas.Option.{slice_get_within, get_or_from_slice_get}
use Rattle.std.proofs.lemmas.Bool.{or_left, or_right}
use Rattle.model.proofs.Same.{both}

module _ {X : Type 0} where
  pub in_none : (x : X) → Contains [] x → ⊥
  in_none x c = omega (arith, c.1)

  pub in_cons : (y x : X) (xs : List X) → Contains (y ∷ xs) x → (y ≡ x) ⊎ Contains xs x
  in_cons y x xs (zero, lt, e) = inl e
  in_cons y x xs (suc k, lt, e) = inr (k, omega arith, e)

  pub in_first : (x : X) (xs : List X) → Contains (x ∷ xs) x
  in_first x xs = (zero, omega arith, refl)

  pub in_rest : (y x : X) (xs : List X) → Contains xs x → Contains (y ∷ xs) x
  in_rest y x xs c = (suc c.0, omega (arith, c.1), c.2)

  -- a filtered list has those that pass
  pub in_filter : (p : X → Bool) (xs : List X) (x : X) → Contains (filter p xs) x → Contains xs x × (p x ≡ true)
  in_filter p [] x c = absurd (in_none x c)
  in_filter p (y ∷ xs) x c = by (λ c. let h = in_filter p xs x c in (in_rest y x xs h.0, h.1)) (p y) refl c
    where
      by : (Contains (filter p xs) x → Contains (y ∷ xs) x × (p x ≡ true)) → (b : Bool) → p y ≡ b
          → Contains (cond b (y ∷ filter p xs) (filter p xs)) x → Contains (y ∷ xs) x × (p x ≡ true)
      by rest true e c = elim (in_cons y x (filter p xs) c) [
        | inl s ↦
            (subst (λ z. Contains (y ∷ xs) z) s (in_first y xs), subst (λ z. p z ≡ true) s e)
        | inr c ↦ rest c
      ]
      by rest false e c = rest c

  pub to_filter : (p : X → Bool) (xs : List X) (x : X) → Contains xs x → p x ≡ true → Contains (filter p xs) x
  to_filter p [] x c e = absurd (in_none x c)
  to_filter p (y ∷ xs) x c e = by (λ c. to_filter p xs x c e) (p y) refl (in_cons y x xs c)
    where
      by : (Contains xs x → Contains (filter p xs) x) → (b : Bool) → p y ≡ b → (y ≡ x) ⊎ Contains xs x
          → Contains (cond b (y ∷ filter p xs) (filter p xs)) x
      by rest true f (inl s) = subst (λ z. Contains (y ∷ filter p xs) z) s (in_first y (filter p xs))
      by rest true f (inr c) = in_rest y x (filter p xs) (rest c)
      by rest false f (inl s) = absurd (true≢false (sym e ∙ ap p (sym s) ∙ f))
      by rest false f (inr c) = rest c

  -- a test that some element passes
  pub any_of : (p : X → Bool) (xs : List X) → list_any p xs ≡ true → (x : X) × Contains xs x × (p x ≡ true)
  any_of p [] h = absurd (true≢false (sym h))
  any_of p (y ∷ xs) h = by (λ h. any_of p xs h) (p y) refl h
    where
      by : (list_any p xs ≡ true → (x : X) × Contains xs x × (p x ≡ true)) → (b : Bool) → p y ≡ b
          → (b || list_any p xs) ≡ true → (x : X) × Contains (y ∷ xs) x × (p x ≡ true)
      by rest true e h = (y, in_first y xs, e)
      by rest false e h = let r = rest h in (r.0, in_rest y r.0 xs r.1, r.2)

  pub to_any : (p : X → Bool) (xs : List X) (x : X) → Contains xs x → p x ≡ true → list_any p xs ≡ true
  to_any p [] x c e = absurd (in_none x c)
  to_any p (y ∷ xs) x c e = elim (in_cons y x xs c) [
    | inl s ↦ or_left (p y) (list_any p xs) (ap p s ∙ e)
    | inr c ↦ or_right (p y) (list_any p xs) (to_any p xs x c e)
  ]

  pub all_at : (p : X → Bool) (xs : List X) (x : X) → list_all p xs ≡ true → Contains xs x → p x ≡ true
  all_at p [] x h c = absurd (in_none x c)
  all_at p (y ∷ xs) x h c = let e = both (p y) (list_all p xs) h in
      elim (in_cons y x xs c) [ inl s ↦ ap p (sym s) ∙ e.0 | inr c ↦ all_at p xs x e.1 c ]

  -- what holds of each element holds of the one at a place
  pub all_get : (P : X → Type 0) (xs : List X) (n : ℕ) (x : X) → All P xs → slice_get xs n ≡ Some x → P x
  all_get P xs n x h got = subst P (get_or_from_slice_get xs n x x got) (h n x (slice_get_within xs n x got))

  pub all_first : (P : X → Type 0) (x : X) (xs : List X) → All P (x ∷ xs) → P x
  all_first P x xs h = h zero x (omega arith)

  pub all_rest : (P : X → Type 0) (x : X) (xs : List X) → All P (x ∷ xs) → All P xs
  all_rest P x xs h k d lt = h (suc k) d (omega arith)

  pub all_none : (P : X → Type 0) → All P []
  all_none P k d lt = absurd (omega arith)

  pub all_cons : (P : X → Type 0) (x : X) (xs : List X) → P x → All P xs → All P (x ∷ xs)
  all_cons P x xs h hs zero d lt = h
  all_cons P x xs h hs (suc k) d lt = hs k d (omega arith)

  -- what holds of each two holds of those at two places
  pub pairs_get : (R : X → X → Type 0) (xs : List X) (n m : ℕ) (x y : X) → AllPairs R xs → n < m
      → slice_get xs n ≡ Some x → slice_get xs m ≡ Some y → R x y
  pairs_get R xs n m x y h lt got had = subst₂ R (get_or_from_slice_get xs n x x got)
      (get_or_from_slice_get xs m y x had) (h n m x lt (slice_get_within xs m y had))

  pub pairs_none : (R : X → X → Type 0) → AllPairs R []
  pairs_none R i j d lt within = absurd (omega arith)

  pub pairs_one : (R : X → X → Type 0) (x : X) → AllPairs R (x ∷ [])
  pairs_one R x i j d lt within = absurd (omega arith)

  pub pairs_two : (R : X → X → Type 0) (x y : X) → R x y → AllPairs R (x ∷ y ∷ [])
  pairs_two R x y h = AllPairs-cons R x (y ∷ []) (all_cons (R x) y [] h (all_none (R x))) (pairs_one R y)

  pub pairs_all : (R : X → X → Type 0) (x : X) (xs : List X) → AllPairs R (x ∷ xs) → All (R x) xs
  pairs_all R x xs h k d lt = h zero (suc k) d (omega arith) (omega arith)

  pub pairs_first : (R : X → X → Type 0) (x y : X) (xs : List X) → AllPairs R (x ∷ xs) → Contains xs y → R x y
  pairs_first R x y xs h c = subst (R x) c.2 (h zero (suc c.0) y (omega arith) (omega (arith, c.1)))

  pub pairs_rest : (R : X → X → Type 0) (x : X) (xs : List X) → AllPairs R (x ∷ xs) → AllPairs R xs
  pairs_rest R x xs h i j d lt within = h (suc i) (suc j) d (omega arith) (omega arith)

module _ {X Y : Type 0} (f : X → Y) where
  pub in_map : (xs : List X) (y : Y) → Contains (map f xs) y → (x : X) × Contains xs x × (f x ≡ y)
  in_map [] y c = absurd (in_none y c)
  in_map (x ∷ xs) y c = elim (in_cons (f x) y (map f xs) c) [
    | inl e ↦ (x, in_first x xs, e)
    | inr c ↦ let r = in_map xs y c in (r.0, in_rest x r.0 xs r.1, r.2)
  ]

  pub to_map : (xs : List X) (x : X) → Contains xs x → Contains (map f xs) (f x)
  to_map [] x c = absurd (in_none x c)
  to_map (y ∷ xs) x c = elim (in_cons y x xs c) [
    | inl e ↦ subst (λ z. Contains (f y ∷ map f xs) (f z)) e (in_first (f y) (map f xs))
    | inr c ↦ in_rest (f y) (f x) (map f xs) (to_map xs x c)
  ]
