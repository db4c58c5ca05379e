-- How facts get their numbers, step by step.
use Rattle.std.proofs.Common.{◌≡◌, ℕ, ◌+◌, List, [], ◌∷◌, ◌++◌, length, subst, arith}
use Rattle.std.proofs.lemmas.List.{length-append}
use Rattle.facts.specs.inner.Graphs.{NodeView}
use Rattle.facts.specs.inner.FactNumbers.{flags_of, flags_of_all, FactNumbersView, IsNumberedFrom}
use Rattle.facts.specs.inner.FactNumbers.{AreNumberedFrom}

-- ---- package after package

pub numbers_more : (k : ℕ) (xs : List NodeView) (ps : List FactNumbersView) (x : NodeView) (p : FactNumbersView)
    → AreNumberedFrom k xs ps → IsNumberedFrom (k + length (flags_of_all xs)) x p
    → AreNumberedFrom k (xs ++ x ∷ []) (ps ++ p ∷ [])
numbers_more k [] [] x p a h = (subst (λ n. IsNumberedFrom n x p) (omega arith) h, tt)
numbers_more k [] (q ∷ qs) x p a h = absurd a
numbers_more k (y ∷ ys) [] x p a h = absurd a
numbers_more k (y ∷ ys) (q ∷ qs) x p a h = (
  a.0,
  numbers_more (k + length (flags_of y)) ys qs x p a.1 (subst (λ n. IsNumberedFrom n x p)
      (let e = length-append (flags_of y) (flags_of_all ys) in let f : length (flags_of_all (y ∷ ys))
      ≡ length (flags_of y) + length (flags_of_all ys) = e in omega (arith, f)) h),
)
