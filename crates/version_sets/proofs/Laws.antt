-- Laws of the operations on sets, number by number.
use Rattle.std.proofs.Common.{◌≡◌, ℕ, zero, suc, ◌+◌, ◌<◌, ◌≤◌, true, false, not, ◌&&◌, ◌||◌, eqb, [], ◌∷◌, length}
use Rattle.std.proofs.Common.{refl, sym, ◌∙◌, arith, eq-eqb, inl, inr}
use Rattle.std.proofs.lemmas.Bool.{false≢true, ne_eqb, cases_eq}
use Rattle.version_sets.specs.Sets.{Members, has, is_full, join, meet, none, only, rest, size}
use Rattle.std.proofs.lemmas.List.{length-replicate, length-set}

-- the numbers of a union, an intersection and a complement
pub has-join : (xs ys : Members) (i : ℕ) → i < length xs → i < length ys → has (join xs ys) i ≡ (has xs i || has ys i)
has-join [] ys i low high = absurd (omega arith)
has-join (x ∷ xs) [] i low high = absurd (omega arith)
has-join (x ∷ xs) (y ∷ ys) zero low high = refl
has-join (x ∷ xs) (y ∷ ys) (suc i) low high = has-join xs ys i (omega arith) (omega arith)

pub has-meet : (xs ys : Members) (i : ℕ) → i < length xs → i < length ys → has (meet xs ys) i ≡ (has xs i && has ys i)
has-meet [] ys i low high = absurd (omega arith)
has-meet (x ∷ xs) [] i low high = absurd (omega arith)
has-meet (x ∷ xs) (y ∷ ys) zero low high = refl
has-meet (x ∷ xs) (y ∷ ys) (suc i) low high = has-meet xs ys i (omega arith) (omega arith)

pub has-rest : (xs : Members) (i : ℕ) → i < length xs → has (rest xs) i ≡ not (has xs i)
has-rest [] i low = absurd (omega arith)
has-rest (x ∷ xs) zero low = refl
has-rest (x ∷ xs) (suc i) low = has-rest xs i (omega arith)

-- a set has only numbers of its universe
pub has_below : (xs : Members) (i : ℕ) → has xs i ≡ true → i < length xs
has_below [] i h = absurd (false≢true h)
has_below (x ∷ xs) zero h = omega arith
has_below (x ∷ xs) (suc i) h = omega (arith, has_below xs i h)

pub length-join : (xs ys : Members) → length xs ≡ length ys → length (join xs ys) ≡ length xs
length-join [] ys e = refl
length-join (x ∷ xs) [] e = absurd (omega arith)
length-join (x ∷ xs) (y ∷ ys) e = omega (arith, length-join xs ys (omega arith))

pub length-meet : (xs ys : Members) → length xs ≡ length ys → length (meet xs ys) ≡ length xs
length-meet [] ys e = refl
length-meet (x ∷ xs) [] e = absurd (omega arith)
length-meet (x ∷ xs) (y ∷ ys) e = omega (arith, length-meet xs ys (omega arith))

-- how many numbers a set has, and when it has all
pub size-le : (xs : Members) → size xs ≤ length xs
size-le [] = omega arith
size-le (true ∷ xs) = omega (arith, size-le xs)
size-le (false ∷ xs) = omega (arith, size-le xs)

eqb_next : (m n : ℕ) → eqb (1 + m) (suc n) ≡ eqb m n
eqb_next m n = elim (cases_eq m n) [
  | inl e ↦ eq-eqb (1 + m) (suc n) (omega arith) ∙ sym (eq-eqb m n e)
  | inr o ↦ ne_eqb (1 + m) (suc n) (λ (e : 1 + m ≡ suc n). o (omega arith)) ∙ sym (ne_eqb m n o)
]

pub full_by_size : (xs : Members) → eqb (size xs) (length xs) ≡ is_full xs
full_by_size [] = refl
full_by_size (true ∷ xs) = eqb_next (size xs) (length xs) ∙ full_by_size xs
full_by_size (false ∷ xs) =
    ne_eqb (size xs) (suc (length xs)) (λ (e : size xs ≡ suc (length xs)). omega (arith, size-le xs))

pub full_has : (xs : Members) (i : ℕ) → is_full xs ≡ true → i < length xs → has xs i ≡ true
full_has [] i full low = absurd (omega arith)
full_has (false ∷ xs) i full low = absurd (false≢true full)
full_has (true ∷ xs) zero full low = refl
full_has (true ∷ xs) (suc i) full low = full_has xs i full (omega arith)

pub length-only : (n i : ℕ) → length (only n i) ≡ n
length-only n i = length-set (none n) i true ∙ length-replicate n false
