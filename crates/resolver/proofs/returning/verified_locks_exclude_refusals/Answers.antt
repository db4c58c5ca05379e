use Rattle.resolver.proofs.Verified.{gives-lock}
use Rattle.resolver.proofs.returning.verified_locks_exclude_refusals.Goals as goal

pub returns : goal.returns
returns c failed folder request lock content old after answer later first second reads old_says keeps =
    gives-lock failed folder request lock content old after answer later first second reads old_says keeps
