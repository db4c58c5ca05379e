use Rattle.terms.specs.Terms.{terms_view}
use Rattle.search_tests.proofs.Fitting.{AreSoFar}
use Rattle.search_tests.specs.inner.Meeting.{universe_at}
use Rattle.search_tests.proofs.made_terms.terms_of.Given as goal

abbrev pub invariant-said : goal.invariant-said
invariant-said g l = AreSoFar (universe_at l.spaces) l.low (terms_view g.S.States.tests l.terms.items)
