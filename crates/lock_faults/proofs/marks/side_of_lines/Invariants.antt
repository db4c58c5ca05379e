use Rattle.std.proofs.Common.{◌≡◌, ◌++◌, drop, map}
use Rattle.lock_faults.specs.inner.Sides.{side_of_lines}
use Rattle.lock_faults.specs.declared.marks.MergePart.TheVariants.{Both}
use Rattle.lock_faults.proofs.marks.side_of_lines.Given as goal

-- what was added so far, with what the side has of the lines that are left, is what it has of all
abbrev pub invariant-lines : goal.invariant-lines
invariant-lines l =
    l.text.items ++ side_of_lines l.side l.part (map (λ x. x.now) (drop l.line-index l.lines))
    ≡ side_of_lines l.side Both (map (λ x. x.now) l.lines)
