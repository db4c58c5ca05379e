-- How many of a rising list are below a number, and the needed numbers rise.
use Rattle.std.proofs.Common.{◌≡◌, ℕ, zero, suc, ◌+◌, ◌<◌, ◌≤◌, Bool, true, false, cond, List, [], ◌∷◌, length, filter}
use Rattle.std.proofs.Common.{get_or, slice_get, ap, subst, arith}
use Rattle.std.specs.List.{AllByRecursion, list_any}
use Rattle.std.specs.List.Sorted.{IsNonDecreasing}
use Rattle.model.specs.Derivation.{Step}
use Rattle.explainer.specs.Explanations.{refers_at, with_later, needed_from, needed}

-- a point with those that pass before it and the others after it is how many pass
pub count : (p : ℕ → Bool) (xs : List ℕ) (i : ℕ) → i ≤ length xs → ((k d : ℕ) → k < i → p (get_or xs k d) ≡ true)
    → ((k d : ℕ) → i ≤ k → k < length xs → p (get_or xs k d) ≡ false) → length (filter p xs) ≡ i
count p [] i within pass fail = omega arith
count p (x ∷ xs) zero within pass fail =
    let no : p x ≡ false = fail 0 0 (omega arith) (omega arith) in
    rw no (count p xs zero (omega arith) (λ k d lt. absurd (omega arith))
    (λ k d low lt. fail (suc k) d (omega arith) (omega arith)))
count p (x ∷ xs) (suc i) within pass fail =
    let yes : p x ≡ true = pass 0 0 (omega arith) in
    rw yes (ap suc (count p xs i (omega arith) (λ k d lt. pass (suc k) d (omega arith))
    (λ k d low lt. fail (suc k) d (omega arith) (omega arith))))

-- from this number on, and below that one
abbrev IsWithin : ℕ → ℕ → List ℕ → Type 0
IsWithin low high xs = AllByRecursion (λ n. (low ≤ n) × (n < high)) xs

wider : (low lower high : ℕ) (xs : List ℕ) → lower ≤ low → IsWithin low high xs → IsWithin lower high xs
wider low lower high [] l h = tt
wider low lower high (x ∷ xs) l h = ((let here = h.0.0 in omega arith, h.0.1), wider low lower high xs l h.1)

abbrev Rises : List ℕ → Type 0
Rises [] = Unit {0}
Rises (x ∷ xs) = AllByRecursion (λ y. x ≤ y) xs × Rises xs

at-least : (n low high : ℕ) (xs : List ℕ) → n ≤ low → IsWithin low high xs → AllByRecursion (λ y. n ≤ y) xs
at-least n low high [] l h = tt
at-least n low high (x ∷ xs) l h = (let here = h.0.0 in omega arith, at-least n low high xs l h.1)

module _ (steps : List Step) where
  within-later : (n high : ℕ) (later : List ℕ) → n < high → IsWithin (n + 1) high later
      → IsWithin n high (with_later steps n later) × (Rises later → Rises (with_later steps n later))
  within-later n high later lt h = by (list_any (λ m. refers_at (slice_get steps m) n) later)
    where
      by : (b : Bool) → IsWithin n high (cond b (n ∷ later) later) × (Rises later → Rises (cond b (n ∷ later) later))
      by true = (
        ((omega arith, lt), wider (n + 1) n high later (omega arith) h),
        λ r. (at-least n (n + 1) high later (omega arith) h, r),
      )
      by false = (wider (n + 1) n high later (omega arith) h, λ r. r)

  pub rising : (n k : ℕ) → IsWithin n (n + k) (needed_from steps n k) × Rises (needed_from steps n k)
  unfolding needed_from
  rising n zero = (tt, tt)
  rising n (suc zero) = (((omega arith, omega arith), tt), (tt, tt))
  rising n (suc (suc k)) =
      let rest = rising (n + 1) (suc k) in
      let same : n + 1 + suc k ≡ n + suc (suc k) = omega arith in
      let later = within-later n (n + suc (suc k)) (needed_from steps (n + 1) (suc k)) (omega arith)
      (subst (λ high. IsWithin (n + 1) high (needed_from steps (n + 1) (suc k))) same rest.0) in
      (later.0, later.1 rest.1)

at-index : (x : ℕ) (xs : List ℕ) (j d : ℕ) → AllByRecursion (λ y. x ≤ y) xs → j < length xs → x ≤ get_or xs j d
at-index x [] j d h lt = absurd (omega arith)
at-index x (y ∷ ys) zero d h lt = h.0
at-index x (y ∷ ys) (suc j) d h lt = at-index x ys j d h.1 (omega arith)

pub non-decreasing : (xs : List ℕ) → Rises xs → IsNonDecreasing xs
non-decreasing [] h i j d low lt = absurd (omega arith)
non-decreasing (x ∷ xs) h zero zero d low lt = omega arith
non-decreasing (x ∷ xs) h zero (suc j) d low lt = at-index x xs j d h.0 (omega arith)
non-decreasing (x ∷ xs) h (suc i) zero d low lt = absurd (omega arith)
non-decreasing (x ∷ xs) h (suc i) (suc j) d low lt = non-decreasing xs h.1 i j d (omega arith) (omega arith)

pub needed-rises : (steps : List Step) → IsNonDecreasing (needed steps)
needed-rises steps = non-decreasing (needed steps) (rising steps 0 (length steps)).1
