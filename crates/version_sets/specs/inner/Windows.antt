-- The words of a set of which only a window is kept, since those before it are all empty or all full, and so are those
-- behind it.
use Rattle.std.specs.List.{range_with_len}
use Rattle.std.specs.Prelude.{◌≡◌, ℕ, ◌+◌, ◌-◌, ◌*◌, ◌/◌, ◌^◌, ◌<◌, ◌≤◌, Bool, true, false, List, ◌++◌, map, min}
use Rattle.std.specs.Prelude.{drop, length, slice_index, take}

-- how many words a universe has
abbrev pub words_for : ℕ → ℕ
words_for n = (n - 1) / 64 + 1

-- a word of the numbers below n, and a word of none or of these
unfoldable pub full_word : ℕ → ℕ → ℕ
full_word n k = 2 ^ min (n - 64 * k) 64 - 1

abbrev pub flank_word : ℕ → Bool → ℕ → ℕ
flank_word n false k = 0
flank_word n true k = full_word n k

-- the words of the empty set or of the full one
unfoldable pub flank : ℕ → Bool → List ℕ
flank n b = map (flank_word n b) (range_with_len 0 (words_for n))

-- the words before a window, its own and those behind it
unfoldable pub spread : ℕ → Bool → ℕ → List ℕ → Bool → List ℕ
spread n low first ws high = take first (flank n low) ++ (ws ++ drop (first + length ws) (flank n high))

-- words that are alike before one place, and from another on
pub record IsFlanked (n : ℕ) (low high : Bool) (ws : List ℕ) (from to : ℕ) : Type 0 where
  pub before : (k : ℕ) → k < from → slice_index ws k ≡ flank_word n low k
  pub behind : (k : ℕ) → to ≤ k → slice_index ws k ≡ flank_word n high k

-- where the window of the numbers from one on and below another begins and ends
pub record AreEnds (n from to first end : ℕ) : Type 0 where
  pub rising : first ≤ end
  pub within : end ≤ words_for n
  pub low : from ≡ 0 → 64 * first ≤ to
  pub above : 0 < from → 64 * first ≤ from
  pub high : to ≡ n → from ≤ 64 * end
  pub below : to < n → to ≤ 64 * end
