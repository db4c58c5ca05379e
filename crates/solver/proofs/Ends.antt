-- The least number of a set, and the vertices that have numbers.
use Rattle.std.proofs.Common.{◌≡◌, ◌<◌, ◌≤◌, ℕ, zero, suc, [], ◌∷◌, length, true, false, Some, refl, sym, ap, arith}
use Rattle.std.proofs.Common.{true≢false}
use Rattle.std.proofs.lemmas.Option.{slice_get_within}
use Rattle.version_sets.specs.Sets.{Members, has, size}
use Rattle.version_sets.proofs.Within.{has_some}
use Rattle.model.specs.Vertices.{Vertex}
use Rattle.numbering.specs.Numberings.{Numbering, number_in}
use Rattle.numbering.proofs.Places.{number_at}
use Rattle.guiding.specs.inner.Guides.{first_in}

pub first_at : (s : Members) (n : ℕ) → has s n ≡ true → ((i : ℕ) → i < n → has s i ≡ false) → first_in s ≡ n
first_at [] n h none = absurd (true≢false (sym h))
first_at (true ∷ s) zero h none = refl
first_at (true ∷ s) (suc n) h none = absurd (true≢false (none 0 (omega arith)))
first_at (false ∷ s) zero h none = absurd (true≢false (sym h))
first_at (false ∷ s) (suc n) h none = ap suc (first_at s n h (λ i lt. none (suc i) (omega (arith, lt))))

pub first_none : (s : Members) → ((i : ℕ) → i < length s → has s i ≡ false) → first_in s ≡ length s
first_none [] none = refl
first_none (true ∷ s) none = absurd (true≢false (none 0 (omega arith)))
first_none (false ∷ s) none = ap suc (first_none s (λ i lt. none (suc i) (omega (arith, lt))))

pub first_zero : (s : Members) → has s 0 ≡ true → first_in s ≡ 0
first_zero [] h = refl
first_zero (true ∷ s) h = refl
first_zero (false ∷ s) h = absurd (true≢false (sym h))

pub first_alone : (s : Members) (n : ℕ) → size s ≤ 1 → has s n ≡ true → first_in s ≡ n
first_alone [] n one h = absurd (true≢false (sym h))
first_alone (true ∷ s) zero one h = refl
first_alone (true ∷ s) (suc n) one h = absurd (omega (arith, one, has_some s n h))
first_alone (false ∷ s) zero one h = absurd (true≢false (sym h))
first_alone (false ∷ s) (suc n) one h = ap suc (first_alone s n one h)

-- a number is below their count
pub number_within : (vs : Numbering) (v : Vertex) (n : ℕ) → number_in vs v ≡ Some n → n < length vs
number_within vs v n e = slice_get_within vs n v (number_at vs v n e)
