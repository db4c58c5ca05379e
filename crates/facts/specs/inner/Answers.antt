-- What is read off the numbers that rules give.
use Rattle.std.specs.Prelude.{◌≡◌, ◌↔◌, ℕ, Bool, true, List, map}
use Rattle.facts.specs.inner.Chains.{has, IsGiven}
use Rattle.facts.specs.declared.rule.Rule.{Rule}
use Rattle.facts.specs.inner.FactNumbers.{FactNumbersView}
use Rattle.facts.specs.inner.RuleLists.{here_flags, lacks_flags, enabled_flags}
use Rattle.facts.specs.declared.facts.Facts.{Facts}

-- the facts of places are those whose numbers the rules give from the start
pub record AreGivenBy (rules : List Rule) (start : List Bool) (ps : List FactNumbersView) (f : Facts) : Type 0 where
  pub set : List Bool
  pub given : (i : ℕ) → (has set i ≡ true) ↔ IsGiven rules start i
  pub here : f.here.items ≡ here_flags set ps
  pub enabled : map (λ v. v.items) f.enabled.items ≡ enabled_flags set ps
  pub lacks : f.lacks.items ≡ lacks_flags set ps
