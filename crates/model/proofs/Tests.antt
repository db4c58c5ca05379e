-- What two tests have of each other, and what compares as less beside what rises.
use Rattle.std.proofs.Common.{◌≡◌, ◌≤◌, Bool, true, false, Ordering, refl, sym, ◌∙◌, arith}
use Rattle.std.specs.Cmp.{IsTotalOrder}
use Rattle.std.specs.Ordering.{is_lt, ordering_index, ordering_then}
use Rattle.std.specs.declared.cmp.Ordering.TheVariants.{Less, Equal, Greater}
use Rattle.std.proofs.lemmas.Cmp.{alike_right}

-- two tests that imply each other are one
pub one_test : (s t : Bool) → (s ≡ true → t ≡ true) → (t ≡ true → s ≡ true) → s ≡ t
one_test true t to from = sym (to refl)
one_test false true to from = from refl
one_test false false to from = refl

-- a tie decides nothing
pub then-equal : (r : Ordering) → ordering_then r Equal ≡ r
then-equal Less = refl
then-equal Equal = refl
then-equal Greater = refl

-- nothing is more than greater
pub index-most : (r : Ordering) → ordering_index r ≤ 2
index-most Less = omega arith
index-most Equal = omega arith
index-most Greater = omega arith

-- what stands below less is less
pub below-less : (r s : Ordering) → ordering_index r ≤ ordering_index s → is_lt s ≡ true → is_lt r ≡ true
below-less Less s l h = refl
below-less Equal Less l h = absurd (omega arith)
below-less Greater Less l h = absurd (omega arith)
below-less Equal Equal l h = cc
below-less Equal Greater l h = cc
below-less Greater Equal l h = cc
below-less Greater Greater l h = cc

-- the lesser of two stands lower beside a third
pub beside : {K : Type 0} {R : K → K → Ordering} (o : IsTotalOrder R) (v w x : K) → R v w ≡ Less
    → ordering_index (R v x) ≤ ordering_index (R w x)
beside {R = R} o v w x lt = by (R v x) (R w x) refl refl
  where
    by : (a b : Ordering) → R v x ≡ a → R w x ≡ b → ordering_index a ≤ ordering_index b
    by Less b e f = omega arith
    by Equal Less e f = let k : Less ≡ Equal = sym (o.trans v w x lt f) ∙ e in cc
    by Equal Equal e f = omega arith
    by Equal Greater e f = omega arith
    by Greater Less e f = let k : Less ≡ Greater = sym (o.trans v w x lt f) ∙ e in cc
    by Greater Equal e f =
        let g : R v x ≡ Less = sym (alike_right o w x v f) ∙ lt in
        let k : Less ≡ Greater = sym g ∙ e in cc
    by Greater Greater e f = omega arith
