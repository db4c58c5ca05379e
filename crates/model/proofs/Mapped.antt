-- What a mapped list has of the list that it is made of, and lists that are made of lists.
use Rattle.std.proofs.Common.{◌≡◌, List, [], ◌∷◌, ◌++◌, map, flat_map, Bool, ◌||◌, refl, sym, ap, ◌∙◌}
use Rattle.std.specs.List.{list_any, All, AllPairs}
use Rattle.std.proofs.lemmas.List.{append-nil, append_assoc}
use Rattle.std.proofs.lemmas.List.Elements.{All-map}
use Rattle.std.proofs.lemmas.List.Kept.{AllPairs-cons}
use Rattle.model.proofs.Lists.{all_none, all_cons, all_first, all_rest, pairs_none, pairs_all, pairs_rest}

-- a test of what the elements become
pub any-map : {X A : Type 0} (p : A → Bool) (view : X → A) (xs : List X)
    → list_any p (map view xs) ≡ list_any (λ x. p (view x)) xs
any-map p view [] = refl
any-map p view (x ∷ xs) = ap (λ b. p (view x) || b) (any-map p view xs)

module _ {X Y : Type 0} (f : X → Y) where
  -- what holds of all of the mapped list
  pub all_mapped : (P : Y → Type 0) (xs : List X) → All P (map f xs) → All (λ x. P (f x)) xs
  all_mapped P [] h = all_none (λ x. P (f x))
  all_mapped P (x ∷ xs) h =
      all_cons (λ x. P (f x)) x xs (all_first P (f x) (map f xs) h) (all_mapped P xs (all_rest P (f x) (map f xs) h))

  -- what holds of each two that elements become
  pub pairs_map : (R : Y → Y → Type 0) (xs : List X) → AllPairs (λ x y. R (f x) (f y)) xs → AllPairs R (map f xs)
  pairs_map R [] h = pairs_none R
  pairs_map R (x ∷ xs) h =
      let S = λ (x y : X). R (f x) (f y) in
      AllPairs-cons R (f x) (map f xs) (All-map (R (f x)) f xs (pairs_all S x xs h))
      (pairs_map R xs (pairs_rest S x xs h))

-- one list more
pub flat_last : {X Y : Type 0} (f : X → List Y) (xs : List X) (x : X)
    → flat_map f (xs ++ x ∷ []) ≡ flat_map f xs ++ f x
flat_last f [] x = append-nil (f x)
flat_last f (y ∷ xs) x = ap (λ l. f y ++ l) (flat_last f xs x) ∙ sym (append_assoc (f y) (flat_map f xs) (f x))
