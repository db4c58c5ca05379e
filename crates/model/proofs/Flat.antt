-- What is in one of several lists is in the list of all.
use Rattle.std.proofs.Common.{List, [], ◌∷◌, Contains, sym, subst, inl, inr}
use Rattle.std.specs.List.{flat_map}
use Rattle.std.proofs.lemmas.List.Elements.{Contains-append_cases, Contains-append_left, Contains-append_right}
use Rattle.model.proofs.Lists.{in_none, in_cons, in_first, in_rest}

module _ {X Y : Type 0} (f : X → List Y) where
  pub in_flat : (xs : List X) (y : Y) → Contains (flat_map f xs) y → (x : X) × Contains xs x × Contains (f x) y
  in_flat [] y c = absurd (in_none y c)
  in_flat (x ∷ xs) y c = elim (Contains-append_cases (f x) (flat_map f xs) y c) [
    | inl c ↦ (x, in_first x xs, c)
    | inr c ↦ let r = in_flat xs y c in (r.0, in_rest x r.0 xs r.1, r.2)
  ]

  pub to_flat : (xs : List X) (x : X) (y : Y) → Contains xs x → Contains (f x) y → Contains (flat_map f xs) y
  to_flat [] x y c e = absurd (in_none x c)
  to_flat (z ∷ xs) x y c e = elim (in_cons z x xs c) [
    | inl s ↦ Contains-append_left (f z) (flat_map f xs) y (subst (λ w. Contains (f w) y) (sym s) e)
    | inr c ↦ Contains-append_right (f z) (flat_map f xs) y (to_flat xs x y c e)
  ]
