-- What holds of each two elements of a list, at its front and before it was mapped, and texts that differ.
use Rattle.std.proofs.Common.{◌≡◌, ℕ, List, [], ◌∷◌, ◌++◌, map, length, ◌≤◌, ◌≢◌, true, Contains}
use Rattle.std.specs.List.{AllPairs, list_any}
use Rattle.std.specs.Cmp.Lexicographic.{bytes_decides}
use Rattle.std.proofs.lemmas.Cmp.{nat_list_eq_equiv}
use Rattle.std.proofs.lemmas.Map.Made.{IsDistinct-from_AllPairs, length-le_from_is_member}
use Rattle.model.specs.Summary.{same_text}
use Rattle.std.proofs.lemmas.List.Elements.{Contains-append_left, All-contains}
use Rattle.std.proofs.lemmas.List.Kept.{AllPairs-cons}
use Rattle.model.proofs.Lists.{any_of, to_any, pairs_none, pairs_all, pairs_rest}
use Rattle.model.proofs.Mapped.{all_mapped}
use Rattle.model.proofs.Members.{all_in}

module _ {X : Type 0} where
  -- what holds of each two holds of those at the front
  pub pairs_front : (R : X → X → Type 0) (xs ys : List X) → AllPairs R (xs ++ ys) → AllPairs R xs
  pairs_front R [] ys h = pairs_none R
  pairs_front R (x ∷ xs) ys h = AllPairs-cons R x xs
      (all_in (R x) xs (λ y c.
      All-contains (R x) (xs ++ ys) y (pairs_all R x (xs ++ ys) h) (Contains-append_left xs ys y c)))
      (pairs_front R xs ys (pairs_rest R x (xs ++ ys) h))

module _ {X Y : Type 0} (f : X → Y) where
  -- what holds of each two that elements become holds of the elements
  pub pairs_mapped : (R : Y → Y → Type 0) (xs : List X) → AllPairs R (map f xs) → AllPairs (λ x y. R (f x) (f y)) xs
  pairs_mapped R [] h = pairs_none (λ x y. R (f x) (f y))
  pairs_mapped R (x ∷ xs) h =
      AllPairs-cons (λ x y. R (f x) (f y)) x xs (all_mapped f (R (f x)) xs (pairs_all R (f x) (map f xs) h))
      (pairs_mapped R xs (pairs_rest R (f x) (map f xs) h))

-- texts that differ from one another and are all among others are no more than those
pub distinct-within : (xs ys : List (List ℕ)) → AllPairs (λ x y. x ≢ y) xs
    → ((x : List ℕ) → Contains xs x → Contains ys x) → length xs ≤ length ys
distinct-within xs ys apart within =
    length-le_from_is_member nat_list_eq_equiv xs ys (IsDistinct-from_AllPairs bytes_decides xs apart) member
  where
    member : (x : List ℕ) → list_any (same_text x) xs ≡ true → list_any (same_text x) ys ≡ true
    member x h =
        let r = any_of (same_text x) xs h in
        to_any (same_text x) ys r.0 (within r.0 r.1) r.2
