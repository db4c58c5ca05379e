use Rattle.std.proofs.Common.{◌≡◌, ◌||◌, ℕ, List, take}
use Rattle.std.specs.List.{list_any}
use Rattle.model.specs.Causes.{same_pair}
use Rattle.axioms.specs.inner.Pairs.{has_pair}
use Rattle.axioms.proofs.gathering.put_features.Given as goal

-- the features so far are there
abbrev pub invariant-features : goal.invariant-features
invariant-features l = (n f : List ℕ) → has_pair l.known n f
    ≡ (has_pair l.fn.known n f || list_any (λ g. same_pair (n, f) (l.name, g)) (take l.feature-index l.features))
