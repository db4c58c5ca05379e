-- What finite chains of reasons give, where facts are numbers and each reason needs at most two facts.
use Rattle.std.specs.Prelude.{◌≡◌, ◌<◌, ℕ, Bool, true, false, List, Contains, slice_index_or}
use Rattle.std.specs.List.{All}
use Rattle.facts.specs.declared.rule.Rule.{Rule}

-- whether a set has a number
abbrev pub has : List Bool → ℕ → Bool
has set i = slice_index_or set i false

module _ (rules : List Rule) (start : List Bool) where
  -- what is given from the start, or by a rule whose two facts are given
  pub data IsGiven : ℕ → Type 0 where
    begins : (i : ℕ) → has start i ≡ true → IsGiven i
    follows : (r : Rule) → Contains rules r → IsGiven r.first → IsGiven r.second → IsGiven r.gives

-- the numbers of a rule are below n
abbrev pub AreBelow : ℕ → List Rule → Type 0
AreBelow n rules = All (λ r. (r.first < n) × (r.second < n) × (r.gives < n)) rules
