use Rattle.std.proofs.Common.{◌≡◌, ◌++◌, take}
use Rattle.facts.specs.inner.FactNumbers.{link_views}
use Rattle.facts.specs.inner.RuleLists.{enable_all}
use Rattle.facts.proofs.rules.enable_all.Given as goal

abbrev pub invariant-links : goal.invariant-links
invariant-links l = l.rules.items ≡ l.fn.rules.items ++ enable_all l.fact (link_views (take l.link-index l.links))
