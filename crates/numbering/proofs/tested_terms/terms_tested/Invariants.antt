use Rattle.std.proofs.Common.{◌≡◌, ◌++◌, drop}
use Rattle.lookups.specs.inner.Symbolic.{symbolic_views}
use Rattle.numbering.specs.inner.KnownProblem.{problem}
use Rattle.numbering.specs.inner.TestedTerms.{all_tested, tested_views}
use Rattle.numbering.proofs.tested_terms.terms_tested.Given as goal

-- the tested terms so far, with those of the terms that are left, are all
abbrev pub invariant-terms : goal.invariant-terms
invariant-terms l = tested_views l.made.items
    ++ all_tested (problem l.known) (symbolic_views (problem l.known) (drop l.term-index l.term-items))
    ≡ all_tested (problem l.known) (symbolic_views (problem l.known) l.term-items)
