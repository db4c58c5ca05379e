-- How the answer of a check comes of its steps.
use Rattle.std.proofs.Common.{◌≡◌, ◌↔◌, ℕ, List, Result, Ok, Err, sym, ◌∙◌, subst}
use Rattle.model.specs.Content.{Content}
use Rattle.model.specs.Derivation.{Step, IsAccepted}
use Rattle.model.specs.Selection.{IsValidSelection}
use Rattle.catalogue.specs.Runs.{Calls}
use Rattle.derivations.specs.Files.{derivation_of_bytes}
use Rattle.vertices.proofs.Bound.{same-Ok}
use Rattle.checker.specs.RefusedSteps.{IsRefusedAt}
use Rattle.checker.specs.declared.outcome.Check.{Check}
use Rattle.checker.specs.declared.outcome.Check.TheVariants.{Proves, Refused}
use Rattle.checker.specs.declared.outcome.Reason.{Reason}
use Rattle.resolver.specs.CheckedProofs.{IsProof, IsChecked, Decides, Checks}
use Rattle.resolver.specs.Inputs.{RequestView, AreRead, IsInputFault, EndsWith, names_of, problem_of}
use Rattle.resolver.specs.Inputs.IsCutShort.{after_loading}
use Rattle.resolver.specs.declared.inputs.Inputs.{Inputs}
use Rattle.resolver.specs.declared.fault.CheckFault.{CheckFault}
use Rattle.resolver.specs.declared.fault.CheckFault.TheVariants.{Input, Proof}

module _ (inputs : Inputs) (bytes : List ℕ) where
  -- what is answered of the steps that were read
  pub checked : (steps : List Step) (c : Check) → derivation_of_bytes bytes ≡ Ok steps
      → (c ≡ Proves ↔ IsAccepted (problem_of inputs) steps)
      → ((n : ℕ) (r : Reason) → c ≡ Refused n r ↔ IsRefusedAt (problem_of inputs) steps n r)
      → (c ≡ Proves → (content : Content) → IsValidSelection (problem_of inputs) content → ⊥) → IsChecked inputs bytes c
  checked steps c says proves refused refutes =
      record { steps = steps; says = says; refused = refused; proves = (is_proof, is_proved); refutes = refutes }
    where
      is_proof : c ≡ Proves → IsProof inputs bytes
      is_proof is = (steps, says, proves.0 is)

      is_proved : IsProof inputs bytes → c ≡ Proves
      is_proved p =
          let same : p.0 ≡ steps = same-Ok p.0 steps (sym p.1 ∙ says) in
          proves.1 (subst (IsAccepted (problem_of inputs)) same p.2)

-- the answer for what was loaded is that of the run
pub answered : {S : Type 0} (calls : Calls S) (failed : S → ℕ) (request : RequestView) (bytes : List ℕ)
    (before after : S) (inputs : Inputs) (r : Result Check CheckFault)
    → AreRead calls failed request before inputs after → Decides inputs bytes r
    → Checks calls failed request bytes before r after
answered calls failed request bytes before after inputs (Ok check) read h =
    record { inputs = inputs; read = read; checked = h }
answered calls failed request bytes before after inputs (Err (Input f)) read h =
    subst (λ b. EndsWith calls failed request before b (IsInputFault calls failed request before f after) after) (sym h)
    (names_of inputs, after_loading inputs after read)
answered calls failed request bytes before after inputs (Err (Proof fault)) read h =
    record { inputs = inputs; read = read; no_derivation = h }
