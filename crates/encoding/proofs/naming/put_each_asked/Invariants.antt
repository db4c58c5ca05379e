use Rattle.std.proofs.Common.{◌≡◌, ◌++◌, drop}
use Rattle.features.specs.Views.{dependency_views}
use Rattle.numbering.specs.inner.KnownProblem.{problem}
use Rattle.encoding.specs.inner.Everything.{asked_of}
use Rattle.encoding.specs.Views.{vertex_views}
use Rattle.encoding.proofs.naming.put_each_asked.Given as goal

-- the vertices so far, with those of the dependencies that are left, are all
abbrev pub invariant-dependencies : goal.invariant-dependencies
invariant-dependencies l =
    vertex_views l.vertices.items
    ++ asked_of (problem l.known) (dependency_views (drop l.dependency-index l.dependencies)) l.name l.asked
    ≡ vertex_views l.fn.vertices.items
    ++ asked_of (problem l.known) (dependency_views l.dependencies) l.name l.asked
