use Rattle.std.proofs.Common.{◌≡◌, take}
use Rattle.facts.specs.inner.FactNumbers.{numbers_views}
use Rattle.facts.specs.inner.RuleLists.{here_flags}
use Rattle.facts.proofs.facts.here_flags.Given as goal

abbrev pub invariant-packages : goal.invariant-packages
invariant-packages l = l.flags.items ≡ here_flags l.marked (numbers_views (take l.node-index l.packages))
