-- The elements of a list that meet a test, one by one.
use Rattle.std.proofs.Common.{◌≡◌, Bool, true, false, cond, List, [], ◌∷◌, ◌++◌, refl}
use Rattle.std.specs.List.{filter}

first : {X : Type 0} (met : Bool) (x : X) (ys : List X) → cond met (x ∷ []) [] ++ ys ≡ cond met (x ∷ ys) ys
first true x ys = refl
first false x ys = refl

pub filter_first : {X : Type 0} (test : X → Bool) (x : X) (xs : List X)
    → filter test (x ∷ []) ++ filter test xs ≡ filter test (x ∷ xs)
filter_first test x xs = first (test x) x (filter test xs)
