use Rattle.incompatibilities.specs.Stores.{entries_view}
use Rattle.search_tests.specs.inner.Universes.{AllLie}
use Rattle.search_tests.proofs.generated.drawn.Given as goal

abbrev pub invariant-pairs : goal.invariant-pairs
invariant-pairs g l = AllLie l.spaces (entries_view g.S.States.tests l.store)
