use Rattle.std.proofs.Common.{◌≡◌, ◌<◌, ℕ, true, Contains}
use Rattle.facts.specs.inner.Chains.{has}
use Rattle.facts.proofs.closing.all_marked.Given as goal

abbrev pub invariant-facts : goal.invariant-facts
invariant-facts l = record {
  all : (i : ℕ) → i < l.fact → has l.marked i ≡ true → Contains l.waiting.items i;
  marked : (i : ℕ) → Contains l.waiting.items i → has l.marked i ≡ true;
}
