-- On which line something stands.
use Rattle.std.specs.Prelude.{ℕ, suc, Bool, ◌==◌, List, length, filter}

abbrev pub is_line_end : ℕ → Bool
is_line_end b = b == 10

-- the number of the line that stands behind these bytes
abbrev pub line_after : List ℕ → ℕ
line_after before = suc (length (filter is_line_end before))
