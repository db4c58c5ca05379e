-- Which earlier steps a step combines (the format is this project's).
use Rattle.std.specs.Prelude.{ℕ, Option, Some, None, List, option_and_then, slice_get}
use Rattle.model.specs.Derivation.{Step, given, combine}
use Rattle.derivations.specs.declared.step.Origin.{Origin}
use Rattle.derivations.specs.declared.step.Origin.TheVariants.{Axiom, Combination}

-- the numbers of the two in the step's order: an axiom has none
abbrev pub references_of : Step → Option (ℕ × ℕ)
references_of (given k ts) = None
references_of (combine a b v ts) = Some (a, b)

-- those of the step of this number
abbrev pub references_at : List Step → ℕ → Option (ℕ × ℕ)
references_at steps n = option_and_then references_of (slice_get steps n)

-- those of a step of such an origin
abbrev pub references_by : {V : Type 0} → Origin V → Option (ℕ × ℕ)
references_by (Axiom k) = None
references_by (Combination a b v) = Some (a, b)
