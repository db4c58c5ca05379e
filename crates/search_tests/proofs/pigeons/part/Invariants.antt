use Rattle.incompatibilities.specs.Stores.{entries_view}
use Rattle.search_tests.specs.inner.Universes.{AllLie}
use Rattle.search_tests.proofs.pigeons.part.Given as goal

abbrev pub invariant-holes : goal.invariant-holes
invariant-holes g l = AllLie l.spaces (entries_view g.S.States.tests l.store)
