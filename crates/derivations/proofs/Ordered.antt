-- What `ordered` gives of a list that was sorted.
use Rattle.std.proofs.Common.{◌≡◌, Bool, true, false, Ok, Err, List, map, Ordering, refl}
use Rattle.std.specs.Cmp.{IsTotalOrder}
use Rattle.std.specs.List.{IsAllAdjacentAnswer}
use Rattle.std.specs.List.Sorted.{IsPermutation, IsSortedBy}
use Rattle.std.specs.Ordering.{is_lt}
use Rattle.model.proofs.Sorting.{ordered-run, alike-run}
use Rattle.derivations.specs.Orders.{ordered}
use Rattle.derivations.specs.declared.fault.LineFault.TheVariants.{NotALine}

-- if it stands in the order, it is the sorted one
pub ordered-ok : {X K : Type 0} {R : K → K → Ordering} (o : IsTotalOrder R) (v : X → K) (xs ys : List X)
    → IsPermutation xs ys
    → (r : Bool) → r ≡ true → IsAllAdjacentAnswer (λ x y b. b ≡ is_lt (R (v x) (v y))) ys r
    → ordered R (map v xs) ≡ Ok (map v ys)
ordered-ok o v xs ys p r e h = let run = ordered-run o v xs ys p r e h in rw (run.0, run.1) refl

-- and else it is refused
pub ordered-refused : {X K : Type 0} {R : K → K → Ordering} (o : IsTotalOrder R) (v : X → K) (xs ys : List X)
    → IsPermutation xs ys → IsSortedBy (λ x y. is_lt (R (v x) (v y))) ys
    → (r : Bool) → r ≡ false → IsAllAdjacentAnswer (λ x y b. b ≡ is_lt (R (v x) (v y))) ys r
    → ordered R (map v xs) ≡ Err NotALine
ordered-refused o v xs ys p s r e h = rw (alike-run o v xs ys p s r e h) refl
