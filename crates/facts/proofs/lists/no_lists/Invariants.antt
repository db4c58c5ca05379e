use Rattle.std.proofs.Common.{◌≡◌, length}
use Rattle.facts.specs.inner.Lists.{rule_lists, no_lists}
use Rattle.facts.proofs.lists.no_lists.Given as goal

abbrev pub invariant-facts : goal.invariant-facts
invariant-facts l = record {
  length : length l.lists.items ≡ l.counter;
  lists : rule_lists l.lists.items ≡ no_lists l.counter;
}
