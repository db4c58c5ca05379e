use Rattle.std.proofs.Common.{length}
use Rattle.terms.specs.Terms.{term_view, terms_view}
use Rattle.incompatibilities.proofs.Merges.{IsUpTo}
use Rattle.incompatibilities.proofs.combining.push_up_to.Given as goal

abbrev pub invariant-earlier : goal.invariant-earlier
invariant-earlier g l = let view = terms_view g.S.States.tests in
    IsUpTo l.at (term_view g.S.States.tests l.term) (view l.fn.made.items) (view l.made.items)
    (view l.others) (view l.rest)

abbrev pub decreases-earlier : goal.decreases-earlier
decreases-earlier g l = length l.rest
