use Rattle.std.proofs.Common.{◌≡◌, map, take}
use Rattle.version_sets.specs.Sets.{every}
use Rattle.propagation.proofs.trail.full_sets.Given as goal

abbrev pub invariant-spaces : goal.invariant-spaces
invariant-spaces g l = map g.S.States.tests l.sets.items ≡ map every (take l.universe-index l.spaces)
