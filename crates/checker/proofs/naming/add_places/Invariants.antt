use Rattle.std.proofs.Common.{◌≡◌, ℕ, suc, ◌-◌, ◌≤◌, None, length, slice_index_or}
use Rattle.checker.proofs.naming.add_places.Given as goal

abbrev pub invariant-places : goal.invariant-places
invariant-places l = record {
  same : (n : ℕ) → slice_index_or l.sets.items n None ≡ slice_index_or l.fn.sets.items n None;
  more : length l.fn.sets.items ≤ length l.sets.items;
}

abbrev pub decreases-places : goal.decreases-places
decreases-places l = suc l.number - length l.sets.items
