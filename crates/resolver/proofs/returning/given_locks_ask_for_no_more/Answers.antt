use Rattle.resolver.proofs.Returned.{no_more_asked, no_more_cut}
use Rattle.resolver.proofs.returning.given_locks_ask_for_no_more.Goals as goal

pub returns-clause-answered : goal.returns-clause-answered
returns-clause-answered c = no_more_asked

pub returns-clause-cut_short : goal.returns-clause-cut_short
returns-clause-cut_short c = no_more_cut
