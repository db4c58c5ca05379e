use Rattle.std.proofs.Common.{◌≡◌, ◌||◌, ℕ, List}
use Rattle.std.specs.List.{list_any}
use Rattle.model.specs.Causes.{same_pair}
use Rattle.axioms.specs.inner.Pairs.{has_pair}
use Rattle.axioms.proofs.pairs.Pairs.put_each.Given as goal

-- with the features that are left, all are there
abbrev pub invariant-features : goal.invariant-features
invariant-features l = record {
  can : (goal.iterator-features).can_next l.feature-iterator;
  finite : (goal.iterator-features).is_finite l.feature-iterator;
  told : (n f : List ℕ) → (has_pair l.self n f || list_any (λ k. same_pair (n, f) (l.name, k.now)) l.feature-iterator)
      ≡ (has_pair l.fn.self n f || list_any (λ k. same_pair (n, f) (l.name, k.now)) l.fn.features.keys);
}
