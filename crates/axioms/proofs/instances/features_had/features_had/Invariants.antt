use Rattle.std.proofs.Common.{◌≡◌, ◌||◌, ℕ, List, drop}
use Rattle.std.specs.List.{list_any}
use Rattle.catalogue.specs.Stores.{said_by}
use Rattle.features.specs.inner.Texts.{has_text}
use Rattle.model.specs.Summary.{has_feature}
use Rattle.axioms.proofs.instances.features_had.features_had.Given as goal

-- with those of the candidates that are left, those of all are there
abbrev pub invariant-candidates : goal.invariant-candidates
invariant-candidates l = (f : List ℕ) → (has_text l.had.keys f
    || list_any (λ c. has_feature (said_by c).brings.features f) (drop l.candidate-index l.candidates))
    ≡ list_any (λ c. has_feature (said_by c).brings.features f) l.candidates
