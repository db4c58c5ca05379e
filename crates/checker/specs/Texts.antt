-- How what a check answers is printed: a refused step by its number, with the number and the name of the reason (the
-- texts are this project's).
use Rattle.std.specs.Prelude.{ℕ, List, ◌++◌, codes, decimal}
use Rattle.checker.specs.declared.outcome.Check.{Check}
use Rattle.checker.specs.declared.outcome.Check.TheVariants.{Proves, Refused}
use Rattle.checker.specs.declared.outcome.Reason.{Reason}
use Rattle.checker.specs.declared.outcome.Reason.TheVariants.{NotAnAxiom, BadCombination, NotFinal}

abbrev pub reason_text : Reason → List ℕ
reason_text NotAnAxiom = codes "C1 NotAnAxiom"
reason_text BadCombination = codes "C2 BadCombination"
reason_text NotFinal = codes "C3 NotFinal"

abbrev pub check_text : Check → List ℕ
check_text Proves = codes "proves"
check_text (Refused step reason) = codes "refused " ++ (decimal step ++ (codes " " ++ reason_text reason))
