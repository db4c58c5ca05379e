use Rattle.std.proofs.Common.{◌≡◌, length, take}
use Rattle.facts.specs.inner.Worklists.{Follows}
use Rattle.facts.proofs.closing.follow.Given as goal

abbrev pub invariant-rules : goal.invariant-rules
invariant-rules l = record {
  length : length l.marked ≡ length l.fn.marked;
  follows : Follows (take l.rule-index l.rules) l.fn.marked l.fn.waiting.items l.marked l.waiting.items;
}
