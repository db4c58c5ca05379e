use Rattle.std.proofs.Common.{◌≡◌, ◌++◌}
use Rattle.std.specs.List.{flat_map}
use Rattle.features.specs.inner.Tables.{rows_of}
use Rattle.features.specs.Views.{dependency_views}
use Rattle.numbering.specs.inner.KnownProblem.{problem}
use Rattle.encoding.specs.inner.Everything.{asked_for}
use Rattle.encoding.specs.Views.{vertex_views}
use Rattle.encoding.proofs.naming.put_rows.Given as goal

-- the vertices so far, with those of the rows that are left, are all
abbrev pub invariant-rows : goal.invariant-rows
invariant-rows l = record {
  can : (goal.iterator-rows).can_next l.entries-iterator;
  finite : (goal.iterator-rows).is_finite l.entries-iterator;
  told : vertex_views l.vertices.items ++ flat_map (λ row. flat_map (asked_for (problem l.known)
      (dependency_views l.dependencies)) row.1) (rows_of l.entries-iterator)
      ≡ vertex_views l.fn.vertices.items ++ flat_map (λ row. flat_map (asked_for (problem l.known)
      (dependency_views l.dependencies)) row.1) l.table;
}
