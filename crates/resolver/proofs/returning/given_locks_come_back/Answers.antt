use Rattle.resolver.proofs.Returned.{comes_back}
use Rattle.resolver.proofs.returning.given_locks_come_back.Goals as goal

pub returns : goal.returns
returns c = comes_back
