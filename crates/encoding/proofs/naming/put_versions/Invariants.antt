use Rattle.std.proofs.Common.{◌≡◌, ◌++◌, drop, map}
use Rattle.std.specs.List.{flat_map}
use Rattle.semver.specs.Identifiers.{parts_of}
use Rattle.numbering.specs.inner.KnownProblem.{problem}
use Rattle.encoding.specs.inner.Everything.{of_version}
use Rattle.encoding.specs.Views.{vertex_views}
use Rattle.encoding.proofs.naming.put_versions.Given as goal

-- the vertices so far, with those of the versions that are left, are all
abbrev pub invariant-versions : goal.invariant-versions
invariant-versions l =
    vertex_views l.vertices.items
    ++ flat_map (of_version (problem l.known) l.name) (map parts_of (drop l.version-index l.versions))
    ≡ vertex_views l.fn.vertices.items ++ flat_map (of_version (problem l.known) l.name) (map parts_of l.versions)
