use Rattle.resolver.proofs.Returned.{found_valid}
use Rattle.resolver.proofs.returning.given_locks_verify.Goals as goal

pub returns : goal.returns
returns c = found_valid
