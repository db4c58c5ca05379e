-- What is in a list that is made of what each element of another gives with its number, or of what a test lets pass.
use Rattle.std.proofs.Common.{◌≡◌, ℕ, zero, suc, ◌+◌, List, [], ◌∷◌, Bool, true, false, cond, Contains, Some, slice_get}
use Rattle.std.proofs.Common.{refl, sym, subst, inl, inr, arith}
use Rattle.std.proofs.lemmas.List.Elements.{Contains-append_cases, Contains-append_left, Contains-append_right}
use Rattle.std.proofs.lemmas.Option.{none-some, same_Some}
use Rattle.model.proofs.Lists.{in_none, in_cons}
use Rattle.numbering.specs.inner.CausesAt.{each_from}

module _ {X Y : Type 0} (f : ℕ → X → List Y) where
  -- what is given for an element of a list, at its number
  in_each : (n : ℕ) (xs : List X) (y : Y) → Contains (each_from f n xs) y
      → (i : ℕ) × (x : X) × (slice_get xs i ≡ Some x) × Contains (f (n + i) x) y
  in_each n [] y h = absurd (in_none y h)
  in_each n (x ∷ xs) y h = elim (Contains-append_cases (f n x) (each_from f (n + 1) xs) y h) [
    | inl d ↦ let z : n ≡ n + 0 = omega arith in (zero, x, refl, subst (λ k. Contains (f k x) y) z d)
    | inr d ↦ let r = in_each (n + 1) xs y d in let z : (n + 1) + r.0 ≡ n + suc r.0 =
        omega arith in (suc r.0, r.1, r.2, subst (λ k. Contains (f k r.1) y) z r.3)
  ]

  to_each : (n : ℕ) (xs : List X) (i : ℕ) (x : X) (y : Y) → slice_get xs i ≡ Some x → Contains (f (n + i) x) y
      → Contains (each_from f n xs) y
  to_each n [] i x y e h = absurd (none-some x e)
  to_each n (z ∷ xs) zero x y e h =
      let k : n + 0 ≡ n = omega arith in
      Contains-append_left (f n z) (each_from f (n + 1) xs) y
      (subst (λ w. Contains (f n w) y) (sym (same_Some z x e)) (subst (λ m. Contains (f m x) y) k h))
  to_each n (z ∷ xs) (suc i) x y e h =
      let k : n + suc i ≡ (n + 1) + i = omega arith in
      Contains-append_right (f n z) (each_from f (n + 1) xs) y
      (to_each (n + 1) xs i x y e (subst (λ m. Contains (f m x) y) k h))

  -- the same where the first has the number 0
  pub in_all : (xs : List X) (y : Y) → Contains (each_from f 0 xs) y
      → (i : ℕ) × (x : X) × (slice_get xs i ≡ Some x) × Contains (f i x) y
  in_all xs y h = let r = in_each 0 xs y h in let z : 0 + r.0 ≡ r.0 =
      omega arith in (r.0, r.1, r.2, subst (λ k. Contains (f k r.1) y) z r.3)

  pub to_all : (xs : List X) (i : ℕ) (x : X) (y : Y) → slice_get xs i ≡ Some x → Contains (f i x) y
      → Contains (each_from f 0 xs) y
  to_all xs i x y e h = let z : i ≡ 0 + i = omega arith in to_each 0 xs i x y e (subst (λ k. Contains (f k x) y) z h)

module _ {X : Type 0} where
  -- what stands in a list only if a test passes
  pub from_if : (b : Bool) (x : X) (xs : List X) → Contains (cond b xs []) x → (b ≡ true) × Contains xs x
  from_if true x xs h = (refl, h)
  from_if false x xs h = absurd (in_none x h)

  pub to_if : (b : Bool) (x : X) (xs : List X) → b ≡ true → Contains xs x → Contains (cond b xs []) x
  to_if b x xs e h = subst (λ c. Contains (cond c xs []) x) (sym e) h

  pub only_one : (a x : X) → Contains (a ∷ []) x → x ≡ a
  only_one a x h = elim (in_cons a x [] h) [ inl e ↦ sym e | inr d ↦ absurd (in_none x d) ]
