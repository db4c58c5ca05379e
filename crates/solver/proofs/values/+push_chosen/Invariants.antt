use Rattle.std.proofs.Common.{◌-◌}
use Rattle.solver.specs.inner.Decoding.{IsChosenTo}
use Rattle.solver.proofs.values.+push_chosen.Given as goal

abbrev pub decreases-push_chosen : goal.decreases-push_chosen
decreases-push_chosen g l = l.to - l.from

abbrev pub invariant-numbers : goal.invariant-numbers
invariant-numbers g l = IsChosenTo l.values (g.S.States.tests l.set) l.number l.made.items
