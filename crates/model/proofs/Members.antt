-- What holds of each that is in a list holds of all of it, and back.
use Rattle.std.proofs.Common.{◌≡◌, ℕ, List, [], ◌∷◌, Contains, Some, slice_get, subst, inl, inr}
use Rattle.std.specs.List.{All, AllByRecursion}
use Rattle.std.proofs.lemmas.List.Elements.{All-from_recursion}
use Rattle.model.proofs.Lists.{in_none, in_cons, in_first, in_rest, all_none, all_cons, all_get}

module _ {X : Type 0} (P : X → Type 0) where
  -- what holds of all that is in the list
  pub all_in : (xs : List X) → ((x : X) → Contains xs x → P x) → All P xs
  all_in [] h = all_none P
  all_in (x ∷ xs) h = all_cons P x xs (h x (in_first x xs)) (all_in xs (λ y c. h y (in_rest x y xs c)))

  -- the same by recursion on the list
  pub all_each : (xs : List X) → ((x : X) → Contains xs x → P x) → AllByRecursion P xs
  all_each [] h = tt
  all_each (x ∷ xs) h = (h x (in_first x xs), all_each xs (λ y c. h y (in_rest x y xs c)))

  -- what holds of each element, by recursion, holds of one that is in the list
  pub each_at : (xs : List X) (x : X) → AllByRecursion P xs → Contains xs x → P x
  each_at [] x h c = absurd (in_none x c)
  each_at (y ∷ xs) x h c = elim (in_cons y x xs c) [ inl e ↦ subst P e h.0 | inr d ↦ each_at xs x h.1 d ]

  -- .. and of the one at a place
  pub element : (xs : List X) (n : ℕ) (x : X) → AllByRecursion P xs → slice_get xs n ≡ Some x → P x
  element xs n x h got = all_get P xs n x (All-from_recursion P xs h) got
