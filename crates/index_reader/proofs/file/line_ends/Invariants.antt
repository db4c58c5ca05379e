use Rattle.std.proofs.Common.{◌≡◌, ◌+◌, ◌≤◌, length}
use Rattle.std.specs.List.{slice_split}
use Rattle.trees.specs.Trees.{is_line_end}
use Rattle.index_reader.proofs.file.line_ends.Given as goal

-- the line ends so far, with the texts of what is left, are as many as the texts of all
abbrev pub invariant-ends : goal.invariant-ends
invariant-ends l = record {
  few : l.count + length l.rest ≤ length l.bytes;
  told : l.count + length (slice_split is_line_end l.rest) ≡ length (slice_split is_line_end l.bytes);
}

abbrev pub decreases-ends : goal.decreases-ends
decreases-ends l = length l.rest
