use Rattle.incompatibilities.specs.Stores.{entries_view}
use Rattle.solver.specs.inner.Flats.{flats_view}
use Rattle.solver.proofs.FlatRows.{IsUnrolling}
use Rattle.solver.proofs.unrolling.unroll.Given as goal

abbrev pub invariant-entries : goal.invariant-entries
invariant-entries g l = let tests = g.S.States.tests in IsUnrolling (entries_view tests l.store)
    (flats_view tests l.flats.items) l.marks.items l.id l.places.items
