use Rattle.std.proofs.Common.{◌≡◌, ◌||◌, ℕ, List}
use Rattle.features.specs.inner.Tables.{rows_of}
use Rattle.features.specs.inner.Texts.{has_text}
use Rattle.model.specs.Summary.{has_feature}
use Rattle.axioms.proofs.instances.features_had.put_features.Given as goal

-- with the features of the rows that are left, those of all are there
abbrev pub invariant-rows : goal.invariant-rows
invariant-rows l = record {
  can : (goal.iterator-rows).can_next l.feature-iterator;
  finite : (goal.iterator-rows).is_finite l.feature-iterator;
  told : (f : List ℕ) → (has_text l.had.keys f || has_feature (rows_of l.feature-iterator) f)
      ≡ (has_text l.fn.had.keys f || has_feature l.fn.table f);
}
