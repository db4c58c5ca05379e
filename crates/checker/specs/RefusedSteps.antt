-- Which step of a derivation is refused, and why (the reasons are this project's).
use Rattle.std.specs.Prelude.{◌≡◌, ◌-◌, ◌⊎◌, ℕ, List, ◌∷◌, ◌++◌, length}
use Rattle.model.specs.Content.{Problem}
use Rattle.model.specs.Derivation.{Step, given, combine, IsStep, AreSteps, IsAccepted}
use Rattle.checker.specs.declared.outcome.Reason.{Reason}
use Rattle.checker.specs.declared.outcome.Reason.TheVariants.{NotAnAxiom, BadCombination, NotFinal}

-- why a step isn't accepted
abbrev pub reason_for : Step → Reason
reason_for (given k ts) = NotAnAxiom
reason_for (combine i j v ts) = BadCombination

-- the steps before the one of this number are accepted, and it isn't after them
pub record IsFirstRefused (q : Problem) (steps : List Step) (n : ℕ) (reason : Reason) : Type 0 where
  pub before : List Step
  pub step : Step
  pub after : List Step
  pub whole : steps ≡ before ++ step ∷ after
  pub number : n ≡ length before
  pub accepted : AreSteps q before
  pub refused : IsStep q before step → ⊥
  pub why : reason ≡ reason_for step

-- each step is accepted, and the last one isn't a step without terms
pub record IsUnended (q : Problem) (steps : List Step) (n : ℕ) (reason : Reason) : Type 0 where
  pub accepted : AreSteps q steps
  pub unended : IsAccepted q steps → ⊥
  pub number : n ≡ length steps - 1
  pub why : reason ≡ NotFinal

-- the step of this number is the first that is refused; of all that are accepted it is the last one
abbrev pub IsRefusedAt : Problem → List Step → ℕ → Reason → Type 0
IsRefusedAt q steps n reason = IsFirstRefused q steps n reason ⊎ IsUnended q steps n reason
