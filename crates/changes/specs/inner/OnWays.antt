-- The dependencies on ways through a lock.
use Rattle.std.specs.Prelude.{◌≡◌, ◌↔◌, ◌&&◌, ℕ, zero, suc, Bool, true, List, [], ◌∷◌, ◌++◌, map, filter, length}
use Rattle.std.specs.Prelude.{slice_get}
use Rattle.facts.specs.inner.Chains.{IsGiven, has}
use Rattle.facts.specs.declared.rule.Rule.{Rule}
use Rattle.model.specs.Content.{Content, Package, list_if}
use Rattle.changes.specs.inner.Ways.{is_way, lists}

-- a package and one that it lists, by their places
abbrev pub pairs_at : ℕ → List ℕ → List (ℕ × ℕ)
pairs_at i js = map (λ j. (i, j)) js

abbrev pub pairs_below : Content → ℕ → List (ℕ × ℕ)
pairs_below content zero = []
pairs_below content (suc n) = pairs_below content n ++ pairs_at n (list_if (slice_get content n))

-- all of them: the packages in the order of the lock, and of each in the order of its list
abbrev pub all_pairs : Content → List (ℕ × ℕ)
all_pairs content = pairs_below content (length content)

-- some way goes from the one to the other
abbrev pub IsOnWay : Content → (Package → Bool) → (Package → Bool) → ℕ → ℕ → Type 0
IsOnWay content begins ends i j =
    (front back : List ℕ) × (is_way content begins ends (front ++ i ∷ j ∷ back) ≡ true)

-- just those on ways, in order
pub record AreOnWays (content : Content) (begins ends : Package → Bool) (pairs : List (ℕ × ℕ)) : Type 0 where
  pub is_told : ℕ × ℕ → Bool
  pub are_told : pairs ≡ filter is_told (all_pairs content)
  pub told_on_ways : (i j : ℕ) → lists content i j ≡ true → (is_told (i, j) ≡ true) ↔ IsOnWay content begins ends i j

-- what is marked ahead from the root, and back from what is meant
abbrev pub are_both : List Bool → List Bool → ℕ × ℕ → Bool
are_both ahead back p = has ahead p.0 && has back p.1

-- the one leads to the other, ahead and back
abbrev pub rule : ℕ → ℕ → Rule
rule i j = record { first = i; second = i; gives = j }

abbrev pub rules_ahead : List (ℕ × ℕ) → List Rule
rules_ahead pairs = map (λ p. rule p.0 p.1) pairs

abbrev pub rules_back : List (ℕ × ℕ) → List Rule
rules_back pairs = map (λ p. rule p.1 p.0) pairs

-- what lies between marks: ahead of the ones, and back from the others
abbrev pub AreBetween : List (ℕ × ℕ) → List Bool → List Bool → List (ℕ × ℕ) → Type 0
AreBetween pairs ahead back found = (a b : List Bool)
    × ((i : ℕ) → (has a i ≡ true) ↔ IsGiven (rules_ahead pairs) ahead i)
    × ((j : ℕ) → (has b j ≡ true) ↔ IsGiven (rules_back pairs) back j)
    × (found ≡ filter (are_both a b) pairs)
