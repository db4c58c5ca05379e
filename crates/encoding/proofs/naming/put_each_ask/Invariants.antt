use Rattle.std.proofs.Common.{◌≡◌, ◌++◌, drop}
use Rattle.semver.specs.Identifiers.{parts_of}
use Rattle.features.specs.Views.{dependency_views}
use Rattle.encoding.specs.inner.Everything.{ask_if}
use Rattle.encoding.specs.Views.{vertex_views}
use Rattle.numbering.specs.inner.CausesAt.{each_from}
use Rattle.encoding.proofs.naming.put_each_ask.Given as goal

-- the vertices so far, with those of the dependencies that are left, are all
abbrev pub invariant-dependencies : goal.invariant-dependencies
invariant-dependencies l =
    vertex_views l.vertices.items ++ each_from (ask_if l.release.name.now (parts_of l.release.version.now) l.name
    l.asked) l.number (dependency_views (drop l.number l.dependencies))
    ≡ vertex_views l.fn.vertices.items ++ each_from (ask_if l.release.name.now (parts_of l.release.version.now) l.name
    l.asked) 0 (dependency_views l.dependencies)
