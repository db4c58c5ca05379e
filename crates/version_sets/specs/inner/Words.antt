-- A set as words of 64 bits (a bit vector): number i is bit i % 64 of word i / 64.
use Rattle.std.specs.Int.{bit_at, bit_not, w64}
use Rattle.std.specs.Int.RustNames.{count_ones}
use Rattle.std.specs.List.{list_all}
use Rattle.std.specs.Prelude.{◌*◌, ◌≡◌, ℕ, ◌+◌, ◌-◌, ◌/◌, ◌%◌, ◌^◌, ◌<◌, ◌≤◌, ◌==◌, Bool, false, bit_and, List, [], ◌∷◌}
use Rattle.std.specs.Prelude.{length, slice_index}
use Rattle.version_sets.specs.inner.Listed.{set_where}
use Rattle.version_sets.specs.Sets.{Members, has}

-- whether a number's bit is set
abbrev pub has_bit : List ℕ → ℕ → Bool
has_bit ws i = bit_at (slice_index ws (i / 64)) (i % 64) == 1

-- the words of a set: one at least, as many as the universe needs, with no bit set at and past it
pub record IsWords (n : ℕ) (ws : List ℕ) : Type 0 where
  pub small : n ≤ 65536
  pub long : length ws ≡ (n - 1) / 64 + 1
  pub fits : (k : ℕ) → slice_index ws k < 2 ^ 64
  pub clear : (i : ℕ) → n ≤ i → has_bit ws i ≡ false

abbrev pub and_not : ℕ → ℕ → ℕ
and_not x y = bit_and x (bit_not w64 y)

abbrev pub all_zero : List ℕ → Bool
all_zero ws = list_all (λ w. w == 0) ws

-- how many bits are set
abbrev pub ones_in : List ℕ → ℕ
ones_in [] = 0
ones_in (w ∷ ws) = count_ones w + ones_in ws

-- the words of a set
pub record AreWords (s : Members) (ws : List ℕ) : Type 0 where
  pub is : IsWords (length s) ws
  pub same : set_where (length s) (has_bit ws) ≡ s

-- words have the bits of some tests
pub record AreWordsOf (tests : Members) (n : ℕ) (ws : List ℕ) : Type 0 where
  pub long : length ws ≡ n
  pub fits : (k : ℕ) → slice_index ws k < 2 ^ 64
  pub bits : (k j : ℕ) → k < length ws → j < 64 → (bit_at (slice_index ws k) j == 1) ≡ has tests (64 * k + j)
