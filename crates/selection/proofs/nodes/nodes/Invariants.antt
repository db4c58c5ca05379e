use Rattle.std.proofs.Common.{◌≡◌, map, take}
use Rattle.lockfile.specs.inner.Views.{package_views}
use Rattle.catalogue.specs.Problems.{problem_in}
use Rattle.facts.specs.inner.Graphs.{node_views}
use Rattle.selection.specs.inner.Graphs.{node_of, is_known, are_known}
use Rattle.selection.proofs.nodes.nodes.Given as goal

-- the packages so far
abbrev pub invariant-packages : goal.invariant-packages
invariant-packages l = record {
  graph : node_views l.found.items ≡ map (node_of (problem_in l.manifest l.catalogue) (package_views l.content))
      (package_views (take l.locked-index l.content));
  known : are_known l.found.items
      ≡ map (is_known (problem_in l.manifest l.catalogue)) (package_views (take l.locked-index l.content));
}
