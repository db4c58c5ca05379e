-- The first place of a list that passes, counted from a number.
use Rattle.std.proofs.Common.{◌≡◌, ℕ, suc, ◌+◌, Bool, true, false, cond, List, [], ◌∷◌, Option, Some, None, option_map}
use Rattle.std.proofs.Common.{refl, sym, ap, ◌∙◌, arith}
use Rattle.std.specs.Option.{option_or}
use Rattle.std.specs.Prelude.{◌&&◌}
use Rattle.model.specs.Summary.{Dependency}
use Rattle.model.specs.Content.{Problem}
use Rattle.model.specs.Vertices.{Owner, owner_brings}
use Rattle.model.specs.Causes.{is_needed, is_unmatched}
use Rattle.model.specs.inner.Instances.{first_place, needed_unmatched}
use Rattle.lookups.specs.inner.Needs.{place_from, is_needed_unmatched}

from_is : {A : Type 0} (test : A → Bool) (n : ℕ) (xs : List A)
    → place_from test n xs ≡ option_map (λ i. n + i) (first_place test xs)
from_is test n [] = refl
from_is {A = A} test n (x ∷ xs) = by (test x) (from_is test (n + 1) xs)
  where
    none_more : n ≡ n + 0
    none_more = omega arith

    one_more : (i : ℕ) → (n + 1) + i ≡ n + suc i
    one_more i = omega arith

    rest_is : (o : Option ℕ) → option_map (λ i. (n + 1) + i) o ≡ option_map (λ i. n + i) (option_map suc o)
    rest_is None = refl
    rest_is (Some i) = ap Some (one_more i)

    by : (b : Bool) → place_from test (n + 1) xs ≡ option_map (λ i. (n + 1) + i) (first_place test xs)
        → cond b (Some n) (place_from test (n + 1) xs)
        ≡ option_map (λ i. n + i) (cond b (Some 0) (option_map suc (first_place test xs)))
    by true e = ap Some none_more
    by false e = e ∙ rest_is (first_place test xs)

same_option : (o : Option ℕ) → option_map (λ i. 0 + i) o ≡ o
same_option None = refl
same_option (Some i) = ap Some (none_less i)
  where
    none_less : (i : ℕ) → 0 + i ≡ i
    none_less i = omega arith

pub from_start : {A : Type 0} (test : A → Bool) (xs : List A) → place_from test 0 xs ≡ first_place test xs
from_start test xs = from_is test 0 xs ∙ same_option (first_place test xs)

pub needed_is : (q : Problem) (o : Owner) (ds : List Dependency)
    → place_from (is_needed_unmatched q o) 0 ds ≡ first_place (λ d. is_needed o d && is_unmatched q d) ds
unfolding is_needed_unmatched
needed_is q o ds = from_start (λ d. is_needed o d && is_unmatched q d) ds

-- among the dependencies of the owner
pub needed_first : (q : Problem) (o : Owner) (ds : List Dependency) → ds ≡ (owner_brings q o).dependencies
    → place_from (is_needed_unmatched q o) 0 ds ≡ needed_unmatched q o
needed_first q o ds e = needed_is q o ds ∙ ap (first_place (λ d. is_needed o d && is_unmatched q d)) e

-- where no number is written
pub or_found : (n m : Option ℕ) → n ≡ None → m ≡ option_or n m
or_found n m e = sym (ap (λ o. option_or o m) e)
