-- A set as the rising list of its members (set theory's roster form).
use Rattle.std.specs.Prelude.{◌≡◌, ℕ, ◌≤◌, ◌==◌, Bool, List, map}
use Rattle.std.specs.List.{filter, list_any, range_with_len}
use Rattle.version_sets.specs.Sets.{Members}

-- the numbers below a universe, rising
abbrev pub below : ℕ → List ℕ
below n = range_with_len 0 n

-- the set of the numbers of a universe that pass a test
abbrev pub set_where : ℕ → (ℕ → Bool) → Members
set_where n test = map test (below n)

-- the same numbers, listed
abbrev pub list_where : ℕ → (ℕ → Bool) → List ℕ
list_where n test = filter test (below n)

abbrev pub is_listed : List ℕ → ℕ → Bool
is_listed ms i = list_any (λ m. m == i) ms

-- the list is that of the numbers of the universe that stand in it: it rises, and each is below the universe
pub record IsList (n : ℕ) (ms : List ℕ) : Type 0 where
  pub small : n ≤ 65536
  pub rises : ms ≡ list_where n (is_listed ms)
