use Rattle.std.proofs.Common.{◌≡◌, ◌++◌, drop, map}
use Rattle.semver.specs.Identifiers.{parts_of}
use Rattle.encoding.specs.inner.Everything.{in_each}
use Rattle.encoding.specs.Views.{vertex_views}
use Rattle.encoding.proofs.naming.put_classes.Given as goal

-- the vertices so far, with those of the versions that are left, are all
abbrev pub invariant-versions : goal.invariant-versions
invariant-versions l =
    vertex_views l.vertices.items ++ in_each l.name l.feature (map parts_of (drop l.version-index l.versions))
    ≡ vertex_views l.fn.vertices.items ++ in_each l.name l.feature (map parts_of l.versions)
