use Rattle.terms.specs.Terms.{terms_view}
use Rattle.numbering.specs.inner.KnownProblem.{problem}
use Rattle.solver.specs.Refusing.{spoken_views}
use Rattle.solver.proofs.Sized.{IsSpeaking}
use Rattle.solver.proofs.speaking.spoken_terms.Given as goal

abbrev pub invariant-terms : goal.invariant-terms
invariant-terms g l =
    IsSpeaking (problem l.known) l.table (terms_view g.S.States.tests l.terms) l.term-index (spoken_views l.made.items)
