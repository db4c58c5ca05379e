use Rattle.incompatibilities.specs.Stores.{entries_view}
use Rattle.search_tests.specs.inner.Universes.{AllLie}
use Rattle.search_tests.proofs.worked.store_of.Given as goal

abbrev pub invariant-entries : goal.invariant-entries
invariant-entries g l = AllLie l.spaces (entries_view g.S.States.tests l.store)
