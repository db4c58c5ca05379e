use Rattle.std.proofs.Common.{◌≡◌, ℕ, suc, ◌-◌, None, length, slice_index_or}
use Rattle.solver.proofs.spaces.add_places.Given as goal

abbrev pub invariant-places : goal.invariant-places
invariant-places l = (n : ℕ) → slice_index_or l.listed.items n None ≡ slice_index_or l.fn.listed.items n None

abbrev pub decreases-places : goal.decreases-places
decreases-places l = suc l.number - length l.listed.items
