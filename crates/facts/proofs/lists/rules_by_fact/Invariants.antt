use Rattle.std.proofs.Common.{◌≡◌, length, drop}
use Rattle.facts.specs.inner.Lists.{rule_lists, put_all, index_of}
use Rattle.facts.proofs.lists.rules_by_fact.Given as goal

-- the lists so far with the rules that are left are the lists of all
abbrev pub invariant-rules : goal.invariant-rules
invariant-rules l = record {
  length : length l.lists.items ≡ l.fn.facts;
  told : put_all (rule_lists l.lists.items) (drop l.rule-index l.rules) ≡ index_of l.fn.facts l.rules;
}
