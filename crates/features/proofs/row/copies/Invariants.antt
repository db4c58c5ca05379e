use Rattle.std.proofs.Common.{◌≡◌, take}
use Rattle.features.specs.inner.Tables.{rows_of}
use Rattle.features.proofs.row.copies.Given as goal

-- the copies so far are of the features so far
abbrev pub invariant-rows : goal.invariant-rows
invariant-rows l = rows_of l.found.items ≡ rows_of (take l.row-index l.rows)
