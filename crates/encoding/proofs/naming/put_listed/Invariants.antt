use Rattle.std.proofs.Common.{◌≡◌, ◌++◌, drop}
use Rattle.std.specs.List.{flat_map}
use Rattle.numbering.specs.inner.KnownProblem.{problem}
use Rattle.encoding.specs.inner.Everything.{feature_of}
use Rattle.encoding.specs.Views.{vertex_views}
use Rattle.encoding.proofs.naming.put_listed.Given as goal

-- the vertices so far, with those of the features that are left, are all
abbrev pub invariant-features : goal.invariant-features
invariant-features l =
    vertex_views l.vertices.items ++ flat_map (feature_of (problem l.known) l.name) (drop l.feature-index l.features)
    ≡ vertex_views l.fn.vertices.items ++ flat_map (feature_of (problem l.known) l.name) l.features
