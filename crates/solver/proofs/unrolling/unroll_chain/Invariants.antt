use Rattle.std.proofs.Common.{drop}
use Rattle.incompatibilities.specs.Stores.{entries_view}
use Rattle.solver.specs.inner.Flats.{flats_view}
use Rattle.solver.proofs.FlatRows.{IsPutting}
use Rattle.solver.proofs.unrolling.unroll_chain.Given as goal

abbrev pub invariant-links : goal.invariant-links
invariant-links g l = let tests = g.S.States.tests in IsPutting (entries_view tests l.store)
    (flats_view tests l.fn.flats.items) (flats_view tests l.flats.items) l.places l.id l.place l.link-index
    (drop l.link-index l.links)
