use Rattle.std.proofs.Common.{◌≡◌, ◌++◌, length, take}
use Rattle.facts.specs.inner.Graphs.{node_views}
use Rattle.facts.specs.inner.FactNumbers.{flags_of_all, numbers_views, AreNumberedFrom}
use Rattle.facts.proofs.numbering.numbers_of_all.Given as goal

abbrev pub invariant-nodes : goal.invariant-nodes
invariant-nodes l = record {
  marked : l.marked.items ≡ l.fn.marked.items ++ flags_of_all (node_views (take l.node-index l.nodes));
  packages : AreNumberedFrom (length l.fn.marked.items) (node_views (take l.node-index l.nodes))
      (numbers_views l.packages.items);
}
