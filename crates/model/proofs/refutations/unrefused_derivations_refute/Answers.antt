use Rattle.model.proofs.Accepted.{accepted_refutes}
use Rattle.model.proofs.Accepting.{refused-is}
use Rattle.model.proofs.refutations.unrefused_derivations_refute.Goals as goal

pub returns : goal.returns
returns c = λ q content steps known plain none valid.
    accepted_refutes q content known valid steps ((refused-is q steps plain).0 none)
