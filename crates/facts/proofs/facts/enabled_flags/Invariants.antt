use Rattle.std.proofs.Common.{◌≡◌, map, take}
use Rattle.facts.specs.inner.FactNumbers.{numbers_views}
use Rattle.facts.specs.inner.RuleLists.{enabled_flags}
use Rattle.facts.proofs.facts.enabled_flags.Given as goal

abbrev pub invariant-packages : goal.invariant-packages
invariant-packages l =
    map (λ v. v.items) l.flags.items ≡ enabled_flags l.marked (numbers_views (take l.node-index l.packages))
