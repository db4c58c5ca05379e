-- The one state of a vertex that stands alone.
use Rattle.std.proofs.Common.{◌≡◌, ℕ, zero, suc, ◌<◌, ◌==◌, ◌||◌, true, false, List, Option, Some, None, [], ◌∷◌, refl}
use Rattle.std.proofs.Common.{sym, ap, ◌∙◌, subst, arith}
use Rattle.std.proofs.lemmas.Bool.{false≢true}
use Rattle.version_sets.specs.Sets.{Members, has, size}
use Rattle.propagation.specs.Trails.{set_of}
use Rattle.version_sets.proofs.Within.{has_some}
use Rattle.guiding.specs.inner.Guides.{IsOpenAt, IsUnless}

pub one_member : (s : Members) (i j : ℕ) → size s ≡ 1 → has s i ≡ true → has s j ≡ true → i ≡ j
one_member [] i j one h k = absurd (false≢true h)
one_member (true ∷ s) zero zero one h k = refl
one_member (true ∷ s) zero (suc j) one h k = absurd (omega (arith, one, has_some s j k))
one_member (true ∷ s) (suc i) zero one h k = absurd (omega (arith, one, has_some s i h))
one_member (true ∷ s) (suc i) (suc j) one h k = absurd (omega (arith, one, has_some s i h))
one_member (false ∷ s) zero j one h k = absurd (false≢true h)
one_member (false ∷ s) (suc i) zero one h k = absurd (false≢true k)
one_member (false ∷ s) (suc i) (suc j) one h k = ap suc (one_member s i j one h k)

pub open_by : (sets asked : List Members) (v i : ℕ) (here : Members) (o : Option ℕ) → set_of asked v ≡ here
    → size (set_of sets v) ≡ 1 → has (set_of sets v) i ≡ true → IsUnless here i o → IsOpenAt sets asked v o
open_by sets asked v i here None e one h unless = λ j only.
    let same : i ≡ j = one_member (set_of sets v) i j one h only.1 in
    subst (λ k. ((k == 0) || has (set_of asked v) k) ≡ true) same
    (subst (λ s. ((i == 0) || has s i) ≡ true) (sym e) unless)
open_by sets asked v i here (Some k) e one h unless =
    let is = unless.0 in (
      (one, subst (λ j. has (set_of sets v) j ≡ true) (sym is) h),
      subst (λ j. 0 < j) (sym is) unless.1,
      subst (λ j. has (set_of asked v) j ≡ false) (sym is) (ap (λ s. has s i) e ∙ unless.2),
    )
