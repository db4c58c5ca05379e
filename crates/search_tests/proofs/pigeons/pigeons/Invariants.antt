use Rattle.incompatibilities.specs.Stores.{entries_view}
use Rattle.search_tests.specs.inner.Universes.{AllLie}
use Rattle.search_tests.proofs.pigeons.pigeons.Given as goal

abbrev pub invariant-seconds : goal.invariant-seconds
invariant-seconds g l = AllLie l.spaces (entries_view g.S.States.tests l.store)

abbrev pub invariant-firsts : goal.invariant-firsts
invariant-firsts g l = AllLie l.spaces (entries_view g.S.States.tests l.store)
