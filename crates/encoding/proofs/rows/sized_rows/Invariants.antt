use Rattle.std.proofs.Common.{◌≡◌, map, take}
use Rattle.numbering.specs.inner.KnownProblem.{problem}
use Rattle.encoding.specs.inner.Rows.{row_view, sized}
use Rattle.encoding.proofs.rows.sized_rows.Given as goal

-- the rows are those of the vertices so far
abbrev pub invariant-vertices : goal.invariant-vertices
invariant-vertices l = map row_view l.rows.items ≡ map (sized (problem l.known)) (take l.number l.table)
