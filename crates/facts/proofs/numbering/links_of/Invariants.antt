use Rattle.std.proofs.Common.{◌≡◌, ◌++◌, drop, length}
use Rattle.features.specs.Views.{dependency_views}
use Rattle.facts.specs.inner.FactNumbers.{link_views, links_from, unmarked_for}
use Rattle.facts.proofs.numbering.links_of.Given as goal

abbrev pub invariant-dependencies : goal.invariant-dependencies
invariant-dependencies l = record {
  marked : l.marked.items ++ unmarked_for (dependency_views (drop l.number l.dependencies))
      ≡ l.fn.marked.items ++ unmarked_for (dependency_views l.dependencies);
  links : link_views l.links.items ++ links_from (length l.marked.items) l.node.targets.items l.number
      (dependency_views (drop l.number l.dependencies))
      ≡ links_from (length l.fn.marked.items) l.node.targets.items 0 (dependency_views l.dependencies);
}
