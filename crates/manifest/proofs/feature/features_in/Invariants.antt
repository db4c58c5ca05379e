use Rattle.std.proofs.Common.{◌≡◌, ◌++◌}
use Rattle.std.specs.List.Sorted.{IsStrictlySortedBy}
use Rattle.toml.specs.View.{members_view}
use Rattle.features.specs.inner.Tables.{rows_of}
use Rattle.model.specs.Order.{text_cmp}
use Rattle.manifest.specs.Shapes.{feature_of}
use Rattle.manifest.specs.Values.{each_member}
use Rattle.model.proofs.Fronts.{with_front}
use Rattle.manifest.proofs.FeatureLemmas.{key_texts, row_names}
use Rattle.manifest.proofs.feature.features_in.Given as goal

-- the features so far and those of what is left are those of all, in the order of their names
abbrev pub invariant-members : goal.invariant-members
invariant-members l =
    record {
      can : (goal.iterator-members).can_next l.key-iterator;
      finite : (goal.iterator-members).is_finite l.key-iterator;
      sorted : IsStrictlySortedBy text_cmp (row_names l.found.entries ++ key_texts l.key-iterator);
      told : with_front (rows_of l.found.entries) (each_member feature_of (members_view l.key-iterator))
          ≡ each_member feature_of (members_view l.fn.table.entries);
    }
