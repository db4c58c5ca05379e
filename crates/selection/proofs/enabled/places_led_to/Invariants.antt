use Rattle.std.proofs.Common.{◌≡◌, ◌↔◌, ℕ, true}
use Rattle.std.specs.BTreeSet.{contains}
use Rattle.std.specs.Ordering.{nat_cmp}
use Rattle.selection.proofs.Leading.{IsLedBelow}
use Rattle.selection.proofs.enabled.places_led_to.Given as goal

-- where the dependencies so far lead
abbrev pub invariant-numbers : goal.invariant-numbers
invariant-numbers l = (t : ℕ) → (contains nat_cmp l.places t ≡ true) ↔ IsLedBelow l.enabled l.targets l.number t
