use Rattle.std.proofs.Common.{◌≡◌, ◌++◌, ◌∷◌, true, not, map, drop}
use Rattle.catalogue.specs.Stores.{said_by}
use Rattle.model.specs.Summary.{has_feature}
use Rattle.numbering.proofs.space_tests.lacking_tests.Given as goal

-- the tests so far, with those of the candidates that are left, are those of all
abbrev pub invariant-candidates : goal.invariant-candidates
invariant-candidates l = l.tests.items
    ++ map (λ x. not (has_feature (said_by x).brings.features l.feature)) (drop l.candidate-index l.candidates)
    ≡ true ∷ map (λ x. not (has_feature (said_by x).brings.features l.feature)) l.candidates
