use Rattle.std.proofs.Common.{◌≡◌, take}
use Rattle.facts.specs.inner.FactNumbers.{link_views}
use Rattle.facts.specs.inner.RuleLists.{link_flags}
use Rattle.facts.proofs.facts.link_flags.Given as goal

abbrev pub invariant-links : goal.invariant-links
invariant-links l = l.flags.items ≡ link_flags l.marked (link_views (take l.link-index l.links))
