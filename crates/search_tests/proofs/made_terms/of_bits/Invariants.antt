use Rattle.std.proofs.Common.{◌≡◌, length}
use Rattle.search_tests.proofs.made_terms.of_bits.Given as goal

abbrev pub invariant-states : goal.invariant-states
invariant-states g l = length (g.S.States.tests l.set) ≡ l.universe
