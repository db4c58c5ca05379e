-- Which steps are known to be needed while steps are looked at from the last one down.
use Rattle.std.specs.Prelude.{ℕ, ◌+◌, ◌==◌, ◌||◌, Bool, true, false, List, length, Option, Some, None, slice_set}
use Rattle.std.specs.Prelude.{slice_index_or}

-- the marks, with those of two steps
abbrev pub with_two : Option (ℕ × ℕ) → List Bool → List Bool
with_two None marks = marks
with_two (Some p) marks = slice_set (slice_set marks p.0 true) p.1 true

-- the last step, or a marked one
abbrev pub is_needed : List Bool → ℕ → Bool
is_needed marks n = (n + 1 == length marks) || slice_index_or marks n false
