-- What each side has of a text with the marks of a merge, as Git leaves them where both sides changed the same lines.
use Rattle.std.specs.Prelude.{ℕ, List, [], ◌∷◌, ◌++◌, Bool, true, false, ◌==◌, if◌then◌else◌, Option, Some, None}
use Rattle.std.specs.Prelude.{nat_eq, codes}
use Rattle.std.specs.List.{slice_split, starts_with}
use Rattle.lock_faults.specs.declared.marks.Side.{Side}
use Rattle.lock_faults.specs.declared.marks.Side.TheVariants.{Ours, Theirs}
use Rattle.lock_faults.specs.declared.marks.MergePart.{MergePart}
use Rattle.lock_faults.specs.declared.marks.MergePart.TheVariants.{Both, First, Base, Second}

abbrev pub ends_line : ℕ → Bool
ends_line b = b == 10

abbrev pub begins : List ℕ → List ℕ → Bool
begins line mark = starts_with nat_eq line mark

-- the part that begins after a line, if that is a mark
abbrev pub mark_of : List ℕ → Option MergePart
mark_of line = if begins line (codes "<<<<<<<") then Some First
    else (if begins line (codes "|||||||") then Some Base
    else (if begins line (codes "=======") then Some Second
    else (if begins line (codes ">>>>>>>") then Some Both else None)))

-- what both sides came from is of neither
abbrev pub has_part : Side → MergePart → Bool
has_part side Both = true
has_part Ours First = true
has_part Theirs First = false
has_part side Base = false
has_part Ours Second = false
has_part Theirs Second = true

abbrev pub part_or : Option MergePart → MergePart → MergePart
part_or (Some next) part = next
part_or None part = part

abbrev pub part_after : List ℕ → MergePart → MergePart
part_after line part = part_or (mark_of line) part

abbrev pub kept_if : Option MergePart → Bool → Bool
kept_if (Some next) has = false
kept_if None has = has

-- no mark is of a side
abbrev pub is_kept : Side → MergePart → List ℕ → Bool
is_kept side part line = kept_if (mark_of line) (has_part side part)

-- a line with its end, if a side has it
abbrev pub line_of : Side → MergePart → List ℕ → List ℕ
line_of side part line = if is_kept side part line then line ++ (10 ∷ []) else []

-- what a side has of lines, of which the first stands in a part
unfoldable pub side_of_lines : Side → MergePart → List (List ℕ) → List ℕ
side_of_lines side part [] = []
side_of_lines side part (line ∷ rest) =
    line_of side part line ++ side_of_lines side (part_after line part) rest

abbrev pub side_of : Side → List ℕ → List ℕ
side_of side text = side_of_lines side Both (slice_split ends_line text)
