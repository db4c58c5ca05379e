use Rattle.std.proofs.Common.{◌≡◌, ◌++◌, drop}
use Rattle.facts.specs.inner.FactNumbers.{numbers_views}
use Rattle.facts.specs.inner.RuleLists.{rules_from, all_rules}
use Rattle.facts.proofs.rules.rules_of.Given as goal

abbrev pub invariant-packages : goal.invariant-packages
invariant-packages l = l.rules.items ++ rules_from (numbers_views l.packages) l.root l.number
    (numbers_views (drop l.number l.packages)) ≡ all_rules l.root (numbers_views l.packages)
