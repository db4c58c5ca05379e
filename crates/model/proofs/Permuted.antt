-- What a permutation keeps of each two elements, and when two lists that rise are one.
use Rattle.std.proofs.Common.{◌≡◌, ◌≢◌, ℕ, ◌<◌, List, [], ◌∷◌, length, get_or, Contains, refl, sym, ap, ap₂, ◌∙◌, subst}
use Rattle.std.proofs.Common.{subst₂, inl, inr, ◌⊎◌, arith}
use Rattle.std.specs.List.{AllPairs, swap}
use Rattle.std.specs.List.Sorted.{IsPermutation}
use Rattle.std.proofs.lemmas.Bool.{cases_order, cases_eq}
use Rattle.std.proofs.lemmas.List.Edits.{Swapped, swapped_from_swap}
use Rattle.std.proofs.lemmas.List.Sorted.{IsPermutation-keeps, IsPermutation-swap, length_permutation}
use Rattle.model.proofs.Lists.{in_none, in_cons, in_first, in_rest, pairs_first, pairs_rest}

-- what holds of each two, in either order, holds of them wherever they are moved
module _ {X : Type 0} (R : X → X → Type 0) (turned : (x y : X) → R x y → R y x) where
  abbrev Apart : List X → Type 0
  Apart xs = (i j : ℕ) (d : X) → i ≢ j → i < length xs → j < length xs → R (get_or xs i d) (get_or xs j d)

  apart_from : (xs : List X) → AllPairs R xs → Apart xs
  apart_from xs h i j d other lt within = elim (cases_order i j) [
    | inl e ↦ absurd (other e)
    | inr o ↦ elim o
        [ inl below ↦ h i j d below within | inr above ↦ turned (get_or xs j d) (get_or xs i d) (h j i d above lt) ]
  ]

  -- where the element came from that stands at i after a swap of a and b
  pub record Moved (xs ys : List X) (a b i : ℕ) (d : X) : Type 0 where
    pub k : ℕ
    pub within : k < length xs
    pub is : get_or ys i d ≡ get_or xs k d
    pub which : ((i ≡ a) × (k ≡ b)) ⊎ (((i ≡ b) × (k ≡ a)) ⊎ ((i ≢ a) × (i ≢ b) × (k ≡ i)))

  moved : (xs : List X) (a b i : ℕ) (d : X) → a < length xs → b < length xs → i < length xs
      → Moved xs (swap xs a b) a b i d
  moved xs a b i d a_in b_in i_in = elim (cases_eq i a) [
    | inl e ↦ record { k = b; within = b_in; is = ap (λ m. get_or (swap xs a b) m d) e ∙ s.0; which = inl (e, refl) }
    | inr other ↦ elim (cases_eq i b) [
      | inl e ↦ record {
        k = a;
        within = a_in;
        is =
            ap (λ m. get_or (swap xs a b) m d) e ∙ s.1;
        which = inr (inl (e, refl));
      }
      | inr another ↦ record {
        k = i;
        within = i_in;
        is = s.2 i other another;
        which =
            inr (inr (other, another, refl));
      }
    ]
  ]
    where
      s : Swapped (λ i. get_or xs i d) (λ i. get_or (swap xs a b) i d) a b
      s = swapped_from_swap xs (swap xs a b) a b d a_in b_in refl

  apart-swap : (xs : List X) (a b : ℕ) → a < length xs → b < length xs → Apart xs → Apart (swap xs a b)
  apart-swap xs a b a_in b_in h i j d other lt within =
      let len : length (swap xs a b) ≡ length xs =
      length_permutation xs (swap xs a b) (IsPermutation-swap xs (swap xs a b) a b a_in b_in refl) in
      let m = moved xs a b i d a_in b_in (omega arith) in
      let n = moved xs a b j d a_in b_in (omega arith) in
      subst₂ R (sym m.is) (sym n.is) (h m.k n.k d (apart_places m.k n.k m.which n.which) m.within n.within)
    where
      apart_places : (k l : ℕ) → ((i ≡ a) × (k ≡ b)) ⊎ (((i ≡ b) × (k ≡ a)) ⊎ ((i ≢ a) × (i ≢ b) × (k ≡ i)))
          → ((j ≡ a) × (l ≡ b)) ⊎ (((j ≡ b) × (l ≡ a)) ⊎ ((j ≢ a) × (j ≢ b) × (l ≡ j))) → k ≢ l
      apart_places k l (inl x) (inl y) e = other (x.0 ∙ sym y.0)
      apart_places k l (inl x) (inr (inl y)) e = other (x.0 ∙ sym y.1 ∙ sym e ∙ x.1 ∙ sym y.0)
      apart_places k l (inl x) (inr (inr y)) e = y.1 (sym y.2 ∙ sym e ∙ x.1)
      apart_places k l (inr (inl x)) (inl y) e = other (x.0 ∙ sym y.1 ∙ sym e ∙ x.1 ∙ sym y.0)
      apart_places k l (inr (inl x)) (inr (inl y)) e = other (x.0 ∙ sym y.0)
      apart_places k l (inr (inl x)) (inr (inr y)) e = y.0 (sym y.2 ∙ sym e ∙ x.1)
      apart_places k l (inr (inr x)) (inl y) e = x.1 (sym x.2 ∙ e ∙ y.1)
      apart_places k l (inr (inr x)) (inr (inl y)) e = x.0 (sym x.2 ∙ e ∙ y.1)
      apart_places k l (inr (inr x)) (inr (inr y)) e = other (sym x.2 ∙ e ∙ y.2)

  pub pairs-permutation : (xs ys : List X) → IsPermutation xs ys → AllPairs R xs → AllPairs R ys
  pairs-permutation xs ys p h =
      let all : Apart ys =
      IsPermutation-keeps xs Apart (apart_from xs h) (λ l a b a_in b_in k. apart-swap l a b a_in b_in k) ys p in
      λ i j d lt within. all i j d (omega arith) (omega arith) within

-- two lists that rise, with the same elements, are one
module _ {X : Type 0} (R : X → X → Type 0) (never : (x y : X) → R x y → R y x → ⊥) where
  pub rising-same : (xs ys : List X) → AllPairs R xs → AllPairs R ys → ((x : X) → Contains xs x → Contains ys x)
      → ((x : X) → Contains ys x → Contains xs x) → xs ≡ ys
  rising-same [] [] h k to from = refl
  rising-same [] (y ∷ ys) h k to from = absurd (in_none y (from y (in_first y ys)))
  rising-same (x ∷ xs) [] h k to from = absurd (in_none x (to x (in_first x xs)))
  rising-same (x ∷ xs) (y ∷ ys) h k to from =
      ap₂ (λ z zs. z ∷ zs) first (rising-same xs ys (pairs_rest R x xs h) (pairs_rest R y ys k)
      (rest x y xs ys h k first to) (rest y x ys xs k h (sym first) from))
    where
      first : x ≡ y
      first = elim (in_cons y x ys (to x (in_first x xs))) [
        | inl e ↦ sym e
        | inr c ↦ elim (in_cons x y xs (from y (in_first y ys))) [
          | inl e ↦ e
          | inr d ↦ absurd (never x y (pairs_first R x y xs h d) (pairs_first R y x ys k c))
        ]
      ]

      rest : (x y : X) (xs ys : List X) → AllPairs R (x ∷ xs) → AllPairs R (y ∷ ys) → x ≡ y
          → ((z : X) → Contains (x ∷ xs) z → Contains (y ∷ ys) z)
          → (z : X) → Contains xs z → Contains ys z
      rest x y xs ys h k first to z c = elim (in_cons y z ys (to z (in_rest x z xs c))) [
        | inr d ↦ d
        | inl e ↦ let after : R x z = pairs_first R x z xs h c in
            let itself : R z z = subst (λ w. R w z) (first ∙ e) after in
            absurd (never z z itself itself)
      ]
