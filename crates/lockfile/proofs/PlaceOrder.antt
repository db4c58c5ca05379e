-- The places of a list in order: what a sort of numbers and a test of the neighbours say of `ordered_places`.
use Rattle.std.proofs.Common.{◌≡◌, ℕ, Bool, true, false, nat_eq, nat_lt, List, [], ◌∷◌, map, Ok, Err, refl, ap, arith}
use Rattle.std.specs.List.{AllByRecursion, IsAllAdjacentAnswer}
use Rattle.std.specs.List.Sorted.{IsPermutation, IsSortedBy}
use Rattle.std.specs.Ordering.{nat_cmp, is_lt, is_eq, eq_by_cmp}
use Rattle.std.proofs.lemmas.Bool.Decides.{nat_tests}
use Rattle.std.proofs.lemmas.Cmp.{nat_cmp_total}
use Rattle.lockfile.specs.Locks.{ordered_places}
use Rattle.model.specs.Order.{has_alike}
use Rattle.lockfile.specs.declared.fault.LockFault.TheVariants.{LockShape}
use Rattle.model.proofs.Sorting.{has_alike-agrees, ordered-run, alike-run}

same-list : (ns : List ℕ) → map (λ n. n) ns ≡ ns
same-list [] = refl
same-list (n ∷ ns) = ap (λ l. n ∷ l) (same-list ns)

always : (ns : List ℕ) → AllByRecursion (λ n. Unit {0}) ns
always [] = tt
always (n ∷ ns) = (tt, always ns)

same-test : (m n : ℕ) → nat_eq m n ≡ is_eq (nat_cmp m n)
same-test m n = grind (arith, nat_tests)

pub less-test : (m n : ℕ) → nat_lt m n ≡ is_lt (nat_cmp m n)
less-test m n = grind (arith, nat_tests)

pub repeats : (ns : List ℕ) → has_alike nat_eq ns ≡ has_alike (eq_by_cmp nat_cmp) ns
repeats ns = has_alike-agrees (λ n. Unit {0}) nat_eq (eq_by_cmp nat_cmp) (λ m n p q. same-test m n) ns (always ns)

pub places-ordered : (ms ns : List ℕ) → IsPermutation ms ns → (r : Bool) → r ≡ true
    → IsAllAdjacentAnswer (λ m n b. b ≡ is_lt (nat_cmp m n)) ns r → ordered_places ms ≡ Ok ns
places-ordered ms ns p r e h =
    let both = ordered-run nat_cmp_total (λ n. n) ms ns p r e h in
    let none = rw same-list at both.0 in
    let all = rw (same-list ms, same-list ns) at both.1 in
    rw (repeats ms, none, all) refl

pub places-repeat : (ms ns : List ℕ) → IsPermutation ms ns → IsSortedBy (λ m n. is_lt (nat_cmp m n)) ns → (r : Bool)
    → r ≡ false → IsAllAdjacentAnswer (λ m n b. b ≡ is_lt (nat_cmp m n)) ns r → ordered_places ms ≡ Err LockShape
places-repeat ms ns p s r e h =
    let twice = rw same-list at (alike-run nat_cmp_total (λ n. n) ms ns p s r e h) in
    rw (repeats ms, twice) refl
