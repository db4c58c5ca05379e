use Rattle.std.proofs.Common.{◌≡◌, ◌≤◌, ◌<◌, ℕ, false, length}
use Rattle.version_sets.specs.Sets.{has}
use Rattle.guiding.proofs.choosing.greatest.Given as goal

abbrev pub invariant-numbers : goal.invariant-numbers
invariant-numbers g l =
    (i : ℕ) → l.above ≤ i → i < length (g.S.States.tests l.set) → has (g.S.States.tests l.set) i ≡ false

abbrev pub decreases-numbers : goal.decreases-numbers
decreases-numbers g l = l.above
