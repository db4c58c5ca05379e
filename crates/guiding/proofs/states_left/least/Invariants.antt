use Rattle.std.proofs.Common.{◌≡◌, ◌<◌, ℕ, false}
use Rattle.version_sets.specs.Sets.{has}
use Rattle.guiding.proofs.states_left.least.Given as goal

abbrev pub invariant-numbers : goal.invariant-numbers
invariant-numbers g l = (i : ℕ) → i < l.number → has (g.S.States.tests l.set) i ≡ false
