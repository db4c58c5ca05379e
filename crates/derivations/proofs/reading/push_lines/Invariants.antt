use Rattle.std.proofs.Common.{◌≡◌, ◌+◌, map, drop}
use Rattle.derivations.specs.inner.Earlier.{IsReading}
use Rattle.derivations.specs.Files.{with_lines}
use Rattle.derivations.specs.inner.Tables.{steps_at}
use Rattle.derivations.proofs.reading.push_lines.Given as goal

-- the steps so far, with the lines that are left, are those of all lines
abbrev pub invariant-lines : goal.invariant-lines
invariant-lines l = record {
  sound : IsReading l.tables l.steps.items;
  told : with_lines (l.index + 1) (map (λ x. x.now) (drop l.index l.lines)) (steps_at l.tables l.steps.items)
      ≡ with_lines 1 (map (λ x. x.now) l.lines) (steps_at l.fn.tables l.fn.steps.items);
}
