use Rattle.std.proofs.Common.{◌≡◌, ◌++◌, drop}
use Rattle.std.specs.List.{flat_map}
use Rattle.numbering.specs.inner.KnownProblem.{problem}
use Rattle.encoding.specs.inner.Everything.{of_name}
use Rattle.encoding.specs.Views.{vertex_views}
use Rattle.encoding.proofs.naming.put_names.Given as goal

-- the vertices so far, with those of the names that are left, are all
abbrev pub invariant-names : goal.invariant-names
invariant-names l =
    vertex_views l.vertices.items ++ flat_map (of_name (problem l.known)) (drop l.name-index l.names)
    ≡ vertex_views l.fn.vertices.items ++ flat_map (of_name (problem l.known)) l.names
