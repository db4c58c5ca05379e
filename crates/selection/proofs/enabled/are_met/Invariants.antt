use Rattle.std.proofs.Common.{◌≡◌, ◌<◌, ℕ, false, ◌&&◌, slice_get}
use Rattle.facts.specs.inner.Graphs.{flag_at}
use Rattle.selection.specs.inner.Places.{is_missing}
use Rattle.selection.proofs.enabled.are_met.Given as goal

-- none so far lacks a target
abbrev pub invariant-numbers : goal.invariant-numbers
invariant-numbers l = (k : ℕ) → k < l.number → (is_missing (slice_get l.targets k) && flag_at l.enabled k) ≡ false
