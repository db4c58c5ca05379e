use Rattle.std.proofs.Common.{◌≡◌, ◌++◌, drop}
use Rattle.std.specs.List.{flat_map}
use Rattle.features.specs.EntryViews.{entry_views}
use Rattle.features.specs.Views.{dependency_views}
use Rattle.numbering.specs.inner.KnownProblem.{problem}
use Rattle.encoding.specs.inner.Everything.{asked_for}
use Rattle.encoding.specs.Views.{vertex_views}
use Rattle.encoding.proofs.naming.put_row.Given as goal

-- the vertices so far, with those of the entries that are left, are all
abbrev pub invariant-entries : goal.invariant-entries
invariant-entries l =
    vertex_views l.vertices.items ++ flat_map (asked_for (problem l.known) (dependency_views l.dependencies))
    (entry_views (drop l.entry-index l.entries))
    ≡ vertex_views l.fn.vertices.items
    ++ flat_map (asked_for (problem l.known) (dependency_views l.dependencies)) (entry_views l.entries)
