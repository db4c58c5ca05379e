use Rattle.resolver.proofs.Returned.{locks_selected}
use Rattle.resolver.proofs.returning.locks_are_given_where_there_are_selections.Goals as goal

pub returns : goal.returns
returns c = locks_selected
