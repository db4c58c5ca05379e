-- What stands at a place of a list, of a longer one and of a mapped one.
use Rattle.std.proofs.Common.{◌≡◌, ℕ, zero, suc, ◌<◌, List, [], ◌∷◌, ◌++◌, map, length, Contains, Some, option_map}
use Rattle.std.proofs.Common.{slice_get, refl, ap, ◌∙◌, ◌⊎◌, inl, inr, arith}
use Rattle.std.proofs.lemmas.Option.{none-some, same_Some, slice_get-map, slice_get-get_or, slice_get_within}
use Rattle.std.proofs.lemmas.Option.{get_or_from_slice_get}

module _ {X : Type 0} where
  -- what stands at a place is in the list
  pub got_in : (xs : List X) (n : ℕ) (x : X) → slice_get xs n ≡ Some x → Contains xs x
  got_in xs n x got = (n, slice_get_within xs n x got, get_or_from_slice_get xs n x x got)

  -- what is in the list stands at a place
  pub place_of : (xs : List X) (x : X) → Contains xs x → (n : ℕ) × (slice_get xs n ≡ Some x)
  place_of xs x c = (c.0, slice_get-get_or xs c.0 x c.1 ∙ ap Some c.2)

  -- something stands at each place of the list
  pub some_at : (xs : List X) (n : ℕ) → n < length xs → (x : X) × (slice_get xs n ≡ Some x)
  some_at [] n lt = absurd (omega (arith, lt))
  some_at (x ∷ xs) zero lt = (x, refl)
  some_at (x ∷ xs) (suc n) lt = some_at xs n (omega (arith, lt))

  -- the list goes on: what stood at a place stands there still
  pub get_more : (xs ys : List X) (n : ℕ) (x : X) → slice_get xs n ≡ Some x → slice_get (xs ++ ys) n ≡ Some x
  get_more [] ys n x got = absurd (none-some x got)
  get_more (z ∷ xs) ys zero x got = got
  get_more (z ∷ xs) ys (suc n) x got = get_more xs ys n x got

  -- what is put at the end stands there
  pub get_push : (xs : List X) (y : X) → slice_get (xs ++ y ∷ []) (length xs) ≡ Some y
  get_push [] y = refl
  get_push (z ∷ xs) y = get_push xs y

  -- what stands in a list with one more stood there before, or is the last
  pub get_push_cases : (xs : List X) (y : X) (n : ℕ) (x : X) → slice_get (xs ++ y ∷ []) n ≡ Some x
      → (slice_get xs n ≡ Some x) ⊎ ((n ≡ length xs) × (y ≡ x))
  get_push_cases [] y zero x got = inr (refl, same_Some y x got)
  get_push_cases [] y (suc n) x got = absurd (none-some x got)
  get_push_cases (z ∷ xs) y zero x got = inl got
  get_push_cases (z ∷ xs) y (suc n) x got =
      elim (get_push_cases xs y n x got) [ inl e ↦ inl e | inr p ↦ inr (ap suc p.0, p.1) ]

module _ {X Y : Type 0} (f : X → Y) where
  -- in a mapped list stands what the element becomes
  pub map_at : (xs : List X) (n : ℕ) (x : X) → slice_get xs n ≡ Some x → slice_get (map f xs) n ≡ Some (f x)
  map_at xs n x got = slice_get-map f xs n ∙ ap (option_map f) got
