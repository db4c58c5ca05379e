use Rattle.std.proofs.Common.{◌≡◌, ◌++◌, take}
use Rattle.std.specs.List.{flat_map}
use Rattle.facts.specs.inner.FactNumbers.{link_views, numbers_views}
use Rattle.facts.specs.inner.RuleLists.{link_rules}
use Rattle.facts.proofs.rules.package_rules.Given as goal

abbrev pub invariant-links : goal.invariant-links
invariant-links l =
    l.rules.items ≡ l.fn.rules.items ++ flat_map (link_rules (numbers_views l.packages) l.is_root l.node.here)
    (link_views (take l.link-index l.node.links.items))
