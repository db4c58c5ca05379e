use Rattle.numbering.proofs.Settled.{is_unbroken}
use Rattle.numbering.proofs.settled_assignments_are_unbroken.Goals as goal

pub returns : goal.returns
returns c = λ q vs es x ok settled. is_unbroken q vs es x ok settled
