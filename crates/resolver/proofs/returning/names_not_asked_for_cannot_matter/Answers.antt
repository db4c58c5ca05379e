use Rattle.resolver.proofs.Unasked.{read-there, same-there, unrefused-there, answered-there}
use Rattle.resolver.proofs.returning.names_not_asked_for_cannot_matter.Goals as goal

pub returns-clause-read : goal.returns-clause-read
returns-clause-read c = read-there

pub returns-clause-same : goal.returns-clause-same
returns-clause-same c = same-there

pub returns-clause-unrefused : goal.returns-clause-unrefused
returns-clause-unrefused c = unrefused-there

pub returns-clause-answered : goal.returns-clause-answered
returns-clause-answered c = answered-there
