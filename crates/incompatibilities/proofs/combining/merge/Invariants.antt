use Rattle.std.proofs.Common.{drop}
use Rattle.terms.specs.Terms.{terms_view}
use Rattle.incompatibilities.proofs.Merges.{IsMerging}
use Rattle.incompatibilities.proofs.combining.merge.Given as goal

abbrev pub invariant-firsts : goal.invariant-firsts
invariant-firsts g l = let view = terms_view g.S.States.tests in
    IsMerging l.at (view l.made.items) (view l.first) (view l.second) (view (drop l.term-index l.first)) (view l.rest)
