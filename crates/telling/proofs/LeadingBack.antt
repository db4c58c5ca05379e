-- The steps of a derivation refer to earlier ones.
use Rattle.std.proofs.Common.{◌≡◌, ℕ, zero, suc, ◌+◌, ◌<◌, List, [], ◌∷◌, Some, ap, arith}
use Rattle.std.proofs.lemmas.Option.{none-some, same_Some}
use Rattle.model.specs.Derivation.{Step, given, combine}
use Rattle.derivations.specs.inner.Derivations.{AreStepsFrom, IsDerivation}
use Rattle.derivations.specs.inner.References.{references_at}
use Rattle.telling.specs.inner.Outlines.{LeadsBack}

back-from : (k : ℕ) (ss : List Step) (i a b : ℕ) → AreStepsFrom k ss → references_at ss i ≡ Some (a, b)
    → (a < k + i) × (b < k + i)
back-from k [] i a b h e = absurd (none-some (a, b) e)
back-from k (given kind ts ∷ ss) zero a b h e = absurd (none-some (a, b) e)
back-from k (combine c d v ts ∷ ss) zero a b h e =
    let same : ◌≡◌ {A = ℕ × ℕ} (c, d) (a, b) = same_Some (c, d) (a, b) e in
    let first : c ≡ a = ap (λ p. p.0) same in
    let second : d ≡ b = ap (λ p. p.1) same in
    let low = (h.0).0 in
    let one = low.0 in
    let two = low.1 in
    (omega (arith, first, one), omega (arith, second, two))
back-from k (s ∷ ss) (suc i) a b h e =
    let rest = back-from (k + 1) ss i a b h.1 e in
    let one = rest.0 in
    let two = rest.1 in
    (omega (arith, one), omega (arith, two))

pub leads-back : (steps : List Step) → IsDerivation steps → LeadsBack steps
leads-back steps h n a b e =
    let low = back-from 0 steps n a b h e in
    let one = low.0 in
    let two = low.1 in
    (omega (arith, one), omega (arith, two))
