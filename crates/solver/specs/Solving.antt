-- What a search over a manifest and a loaded index comes to.
use Rattle.std.specs.Prelude.{◌≡◌, ◌≤◌, ℕ, List, [], length, Option, Some, None}
use Rattle.model.specs.Content.{Candidate, Content, Problem}
use Rattle.model.specs.Derivation.{Step}
use Rattle.model.specs.Selection.{IsValidSelection}
use Rattle.model.specs.Selected.{HasBareRoot, IsBrought, IsSelected, IsUnsolvable}
use Rattle.solver.specs.declared.solving.Outcome.{Outcome}
use Rattle.solver.specs.declared.solving.Outcome.TheVariants.{Selection, Unsolvable}

-- preferred: the candidates by name, the most preferred first
module _ (q : Problem) (preferred : List (List ℕ × List Candidate)) where
  abbrev pub IsSolved : Outcome → Type 0
  IsSolved (Selection content) = IsSelected q preferred content
  IsSolved (Unsolvable derivation) = IsUnsolvable q derivation

-- the derivation, if there is one
abbrev pub derivation_of : Outcome → List Step
derivation_of (Selection content) = []
derivation_of (Unsolvable derivation) = derivation

-- there are at least as many steps as packages, where the root alone brings all of these
abbrev pub HasStepEach : Problem → Outcome → ℕ → Type 0
HasStepEach q (Selection content) steps = IsBrought q content → length content ≤ steps
HasStepEach q (Unsolvable derivation) steps = Unit {0}

-- ---- on the way

-- a valid selection, whose root has no checksum and alone brings all of it, and with no more packages than places of
-- the trail; or why there is none
abbrev pub IsFound : Problem → ℕ → Outcome → Type 0
IsFound q places (Selection content) =
    IsValidSelection q content × HasBareRoot q content × IsBrought q content × (length content ≤ places)
IsFound q places (Unsolvable derivation) = IsUnsolvable q derivation

-- the content that was followed, if there is one, else what was found
abbrev pub IsAnswer : Problem → ℕ → Option Content → Outcome → Type 0
IsAnswer q places (Some followed) o = o ≡ Selection followed
IsAnswer q places None o = IsFound q places o
