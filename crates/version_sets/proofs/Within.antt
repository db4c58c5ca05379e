-- A set inside another, and sets that meet: the numbers that they have in common, and how many they have.
use Rattle.std.proofs.Common.{◌≡◌, ℕ, zero, suc, ◌<◌, true, false, [], ◌∷◌, refl, arith}
use Rattle.std.proofs.lemmas.Bool.{false≢true}
use Rattle.version_sets.specs.Sets.{Members, has, inside, meets, size}

pub inside_has : (s x : Members) (i : ℕ) → inside s x ≡ true → has s i ≡ true → has x i ≡ true
inside_has [] x i h k = absurd (false≢true k)
inside_has (true ∷ s) [] i h k = absurd (false≢true h)
inside_has (false ∷ s) [] zero h k = absurd (false≢true k)
inside_has (false ∷ s) [] (suc i) h k = inside_has s [] i h k
inside_has (true ∷ s) (true ∷ x) zero h k = refl
inside_has (true ∷ s) (false ∷ x) zero h k = absurd (false≢true h)
inside_has (false ∷ s) (y ∷ x) zero h k = absurd (false≢true k)
inside_has (true ∷ s) (true ∷ x) (suc i) h k = inside_has s x i h k
inside_has (true ∷ s) (false ∷ x) (suc i) h k = absurd (false≢true h)
inside_has (false ∷ s) (y ∷ x) (suc i) h k = inside_has s x i h k

-- a set that lies inside no number is empty
pub inside_nothing : (s : Members) → inside s [] ≡ true → size s ≡ 0
inside_nothing [] h = refl
inside_nothing (true ∷ s) h = absurd (false≢true h)
inside_nothing (false ∷ s) h = inside_nothing s h

-- a set that has a number isn't empty
pub has_some : (s : Members) (i : ℕ) → has s i ≡ true → 0 < size s
has_some [] i h = absurd (false≢true h)
has_some (true ∷ s) i h = omega arith
has_some (false ∷ s) zero h = absurd (false≢true h)
has_some (false ∷ s) (suc i) h = has_some s i h

-- sets that share a number meet
pub meets_at : (s x : Members) (i : ℕ) → has s i ≡ true → has x i ≡ true → meets s x ≡ true
meets_at [] x i h k = absurd (false≢true h)
meets_at (b ∷ s) [] i h k = absurd (false≢true k)
meets_at (true ∷ s) (true ∷ x) zero h k = refl
meets_at (true ∷ s) (false ∷ x) zero h k = absurd (false≢true k)
meets_at (false ∷ s) (y ∷ x) zero h k = absurd (false≢true h)
meets_at (true ∷ s) (true ∷ x) (suc i) h k = refl
meets_at (true ∷ s) (false ∷ x) (suc i) h k = meets_at s x i h k
meets_at (false ∷ s) (y ∷ x) (suc i) h k = meets_at s x i h k

-- a set that meets another isn't empty
pub meets_some : (s x : Members) → meets s x ≡ true → 0 < size s
meets_some [] x h = absurd (false≢true h)
meets_some (b ∷ s) [] h = absurd (false≢true h)
meets_some (true ∷ s) (b ∷ x) h = omega arith
meets_some (false ∷ s) (b ∷ x) h = meets_some s x h
