use Rattle.std.proofs.Common.{◌≡◌, take}
use Rattle.facts.specs.inner.FactNumbers.{numbers_views}
use Rattle.facts.specs.inner.RuleLists.{lacks_flags}
use Rattle.facts.proofs.facts.lacks_flags.Given as goal

abbrev pub invariant-packages : goal.invariant-packages
invariant-packages l = l.flags.items ≡ lacks_flags l.marked (numbers_views (take l.node-index l.packages))
