use Rattle.std.proofs.Common.{◌≡◌, ◌<◌, ℕ, false}
use Rattle.version_sets.specs.Sets.{has}
use Rattle.solver.proofs.states.first_in.Given as goal

-- the set has none of the numbers so far
abbrev pub invariant-numbers : goal.invariant-numbers
invariant-numbers g l = (i : ℕ) → i < l.number → has (g.S.States.tests l.set) i ≡ false
