-- What the check answers, as the function that it follows says it.
use Rattle.std.specs.Prelude.{Option, Some, None}
use Rattle.model.specs.inner.Checks as model
use Rattle.checker.specs.declared.outcome.Check.{Check}
use Rattle.checker.specs.declared.outcome.Check.TheVariants.{Proves, Refused}
use Rattle.checker.specs.declared.outcome.Reason.{Reason}
use Rattle.checker.specs.declared.outcome.Reason.TheVariants.{NotAnAxiom, BadCombination, NotFinal}

abbrev pub reason_view : Reason → model.Reason
reason_view NotAnAxiom = model.not_an_axiom
reason_view BadCombination = model.not_combined
reason_view NotFinal = model.not_final

abbrev pub check_view : Check → Option model.RefusedStep
check_view Proves = None
check_view (Refused step reason) = Some (step, reason_view reason)
