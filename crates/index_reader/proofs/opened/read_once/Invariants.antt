-- A failed read takes nothing, and the room keeps its length.
use Rattle.std.proofs.Common.{◌≡◌, length}
use Rattle.std.specs.Io.KnownBytes.{Keeps}
use Rattle.index_reader.proofs.opened.read_once.Given as goal

abbrev pub invariant-tries : goal.invariant-tries
invariant-tries g l = (length l.room ≡ length l.fn.room)
    × Keeps (g.R.Read.remaining l.fn.reader) (g.R.Read.remaining l.reader)
