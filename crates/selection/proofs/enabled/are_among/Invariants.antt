use Rattle.std.proofs.Common.{◌≡◌, ◌<◌, ℕ, true, get_or}
use Rattle.std.specs.BTreeSet.{contains}
use Rattle.std.specs.Ordering.{nat_cmp}
use Rattle.selection.proofs.enabled.are_among.Given as goal

-- those so far are among them
abbrev pub invariant-listed : goal.invariant-listed
invariant-listed l = (k d : ℕ) → k < l.place-index → contains nat_cmp l.places (get_or l.list k d) ≡ true
