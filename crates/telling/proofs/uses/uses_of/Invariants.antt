use Rattle.std.proofs.Common.{◌≡◌}
use Rattle.telling.specs.inner.Outlines.{uses_down, uses_of}
use Rattle.telling.proofs.uses.uses_of.Given as goal

-- looking at the steps that are left comes to the same
abbrev pub invariant-steps : goal.invariant-steps
invariant-steps l = uses_down l.derivation l.left l.uses.items ≡ uses_of l.derivation

abbrev pub decreases-steps : goal.decreases-steps
decreases-steps l = l.left
