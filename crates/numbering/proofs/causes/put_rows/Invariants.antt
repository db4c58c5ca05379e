use Rattle.std.proofs.Common.{◌≡◌, ◌++◌, Some}
use Rattle.std.specs.List.{All, flat_map}
use Rattle.semver.specs.Identifiers.{parts_of}
use Rattle.features.specs.inner.Tables.{rows_of}
use Rattle.model.specs.Summary.{entries_at}
use Rattle.numbering.specs.GivenViews.{cause_views}
use Rattle.numbering.specs.inner.CausesAt.{feature_causes}
use Rattle.numbering.specs.inner.KnownProblem.{problem}
use Rattle.numbering.proofs.causes.put_rows.Given as goal

-- the causes so far, with those of the rows that are left, are all; the entries of a row are those of its feature
abbrev pub invariant-rows : goal.invariant-rows
invariant-rows l = record {
  can : (goal.iterator-rows).can_next l.feature-iterator;
  finite : (goal.iterator-rows).is_finite l.feature-iterator;
  known : All (λ row. entries_at row.0 l.table ≡ Some row.1) (rows_of l.feature-iterator);
  told : cause_views l.causes.items ++ flat_map (λ row.
      feature_causes (problem l.known) l.name (parts_of l.version) row.0) (rows_of l.feature-iterator)
      ≡ cause_views l.fn.causes.items
      ++ flat_map (λ row. feature_causes (problem l.known) l.name (parts_of l.version) row.0) l.table;
}
