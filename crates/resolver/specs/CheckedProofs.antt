-- What the check of a derivation from bytes answers.
use Rattle.std.specs.Prelude.{◌≡◌, ◌↔◌, ℕ, true, false, List, Result, Ok, Err}
use Rattle.model.specs.Content.{Content}
use Rattle.model.specs.Derivation.{Step, IsAccepted}
use Rattle.model.specs.Selection.{IsValidSelection}
use Rattle.catalogue.specs.Runs.{Calls}
use Rattle.derivations.specs.Files.{derivation_of_bytes, wants_memory}
use Rattle.derivations.specs.declared.fault.DerivationFault.{DerivationFault}
use Rattle.checker.specs.RefusedSteps.{IsRefusedAt}
use Rattle.checker.specs.declared.outcome.Check.{Check}
use Rattle.checker.specs.declared.outcome.Check.TheVariants.{Proves, Refused}
use Rattle.checker.specs.declared.outcome.Reason.{Reason}
use Rattle.resolver.specs.Inputs.{input_wants_memory, RequestView, AreRead, IsInputFault, EndsWith, problem_of}
use Rattle.resolver.specs.declared.inputs.Inputs.{Inputs}
use Rattle.resolver.specs.declared.fault.CheckFault.{CheckFault}
use Rattle.resolver.specs.declared.fault.CheckFault.TheVariants.{Input, Proof}

-- the bytes are a derivation that is accepted for what was loaded
abbrev pub IsProof : Inputs → List ℕ → Type 0
IsProof inputs bytes =
    (steps : List Step) × (derivation_of_bytes bytes ≡ Ok steps) × IsAccepted (problem_of inputs) steps

-- the bytes are a derivation, and this is its first refused step, exactly where there is one; if there is none, there
-- is no selection at all
pub record IsChecked (inputs : Inputs) (bytes : List ℕ) (check : Check) : Type 0 where
  pub steps : List Step
  pub says : derivation_of_bytes bytes ≡ Ok steps
  pub refused : (n : ℕ) (reason : Reason) → (check ≡ Refused n reason) ↔ IsRefusedAt (problem_of inputs) steps n reason
  pub proves : (check ≡ Proves) ↔ IsProof inputs bytes
  pub refutes : check ≡ Proves → (content : Content) → IsValidSelection (problem_of inputs) content → ⊥

-- the bytes are no derivation; want of memory is no fault of theirs
pub record IsNoDerivation (bytes : List ℕ) (fault : DerivationFault) : Type 0 where
  pub says : derivation_of_bytes bytes ≡ Err fault
  pub not_memory : wants_memory fault ≡ false

-- the check of bytes, for what was loaded: of the inputs' faults only want of memory is left
abbrev pub Decides : Inputs → List ℕ → Result Check CheckFault → Type 0
Decides inputs bytes (Ok check) = IsChecked inputs bytes check
Decides inputs bytes (Err (Input f)) = input_wants_memory f ≡ true
Decides inputs bytes (Err (Proof fault)) = IsNoDerivation bytes fault

module _ {S : Type 0} (calls : Calls S) (failed : S → ℕ) (request : RequestView) (bytes : List ℕ) (before : S) where
  pub record IsCheckFor (check : Check) (after : S) : Type 0 where
    pub inputs : Inputs
    pub read : AreRead calls failed request before inputs after
    pub checked : IsChecked inputs bytes check

  -- the inputs were read, and the bytes are no derivation
  pub record IsUnread (fault : DerivationFault) (after : S) : Type 0 where
    pub inputs : Inputs
    pub read : AreRead calls failed request before inputs after
    pub no_derivation : IsNoDerivation bytes fault

  abbrev pub Checks : Result Check CheckFault → S → Type 0
  Checks (Ok check) after = IsCheckFor check after
  Checks (Err (Input f)) after = EndsWith calls failed request before (input_wants_memory f)
      (IsInputFault calls failed request before f after) after
  Checks (Err (Proof fault)) after = IsUnread fault after
