use Rattle.std.proofs.Common.{◌≡◌, ◌++◌, drop}
use Rattle.numbering.specs.inner.KnownProblem.{problem}
use Rattle.vertices.specs.inner.RefViews.{owner_ref_view}
use Rattle.encoding.specs.inner.Everything.{of_dependency}
use Rattle.numbering.specs.inner.CausesAt.{each_from}
use Rattle.features.specs.Views.{dependency_views}
use Rattle.encoding.specs.Views.{vertex_views}
use Rattle.encoding.proofs.naming.put_dependencies.Given as goal

-- the vertices so far, with those of the dependencies that are left, are all
abbrev pub invariant-dependencies : goal.invariant-dependencies
invariant-dependencies l =
    vertex_views l.vertices.items ++ each_from (of_dependency (problem l.known) (owner_ref_view l.owner)) l.number
    (dependency_views (drop l.number l.dependencies))
    ≡ vertex_views l.fn.vertices.items
    ++ each_from (of_dependency (problem l.known) (owner_ref_view l.owner)) 0 (dependency_views l.dependencies)
