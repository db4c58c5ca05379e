use Rattle.std.proofs.Common.{◌≡◌, ◌++◌}
use Rattle.std.specs.List.{flat_map}
use Rattle.semver.specs.Identifiers.{parts_of}
use Rattle.features.specs.inner.Tables.{rows_of}
use Rattle.features.specs.Views.{summary_view}
use Rattle.numbering.specs.inner.KnownProblem.{problem}
use Rattle.encoding.specs.inner.Everything.{of_feature}
use Rattle.encoding.specs.Views.{vertex_views}
use Rattle.encoding.proofs.naming.put_table.Given as goal

-- the vertices so far, with those of the rows that are left, are all
abbrev pub invariant-rows : goal.invariant-rows
invariant-rows l = record {
  can : (goal.iterator-rows).can_next l.feature-iterator;
  finite : (goal.iterator-rows).is_finite l.feature-iterator;
  told : vertex_views l.vertices.items ++ flat_map (λ row. of_feature (problem l.known) l.release.name.now
      (parts_of l.release.version.now) (summary_view l.brings) row.0) (rows_of l.feature-iterator)
      ≡ vertex_views l.fn.vertices.items ++ flat_map (λ row. of_feature (problem l.known) l.release.name.now
      (parts_of l.release.version.now) (summary_view l.brings) row.0) l.brings.features;
}
