use Rattle.std.proofs.Common.{◌≡◌, ◌≤◌, ◌++◌, length, map}
use Rattle.std.specs.List.{slice_split}
use Rattle.trees.specs.Trees.{is_line_end}
use Rattle.index_reader.proofs.file.texts_in.Given as goal

-- the texts so far, with those of what is left, are those of all
abbrev pub invariant-ends : goal.invariant-ends
invariant-ends l = (length l.rest ≤ length l.bytes)
    × (map (λ x. x.now) l.found.items ++ slice_split is_line_end l.rest ≡ slice_split is_line_end l.bytes)

abbrev pub decreases-ends : goal.decreases-ends
decreases-ends l = length l.rest
