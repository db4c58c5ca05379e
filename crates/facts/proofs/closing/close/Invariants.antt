use Rattle.std.proofs.Common.{◌≡◌, ◌+◌, length}
use Rattle.facts.specs.inner.Worklists.{Worked, unmarked}
use Rattle.facts.proofs.closing.close.Given as goal

abbrev pub invariant-facts : goal.invariant-facts
invariant-facts l = record {
  length : length l.marked ≡ length l.fn.marked;
  worked : Worked l.rules l.fn.marked l.marked l.waiting.items;
}

-- whoever waits, and who may come to wait
abbrev pub decreases-facts : goal.decreases-facts
decreases-facts l = unmarked l.marked + length l.waiting.items
