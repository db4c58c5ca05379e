use Rattle.std.proofs.Common.{◌≡◌, length}
use Rattle.std.specs.Io.KnownBytes.{Consumes}
use Rattle.index_reader.proofs.opened.rest_of.Given as goal

-- what was read is what the reader lost, and the room keeps its length
abbrev pub invariant-reads : goal.invariant-reads
invariant-reads g l = (length l.room ≡ length l.fn.room)
    × Consumes (g.R.Read.remaining l.fn.reader) (g.R.Read.remaining l.reader) l.bytes.items
