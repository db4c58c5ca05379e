use Rattle.std.proofs.Common.{◌≡◌, ◌++◌, drop}
use Rattle.lookups.specs.inner.Symbolic.{symbolic_views}
use Rattle.lookups.specs.inner.TermViews.{term_views}
use Rattle.axioms.specs.inner.KeptViews.{problem_of}
use Rattle.axioms.proofs.instances.kinds.terms_of_cause.Given as goal

-- the terms so far, with those that are left, are all
abbrev pub invariant-terms : goal.invariant-terms
invariant-terms l = record {
  same : problem_of l.kept ≡ problem_of l.fn.kept;
  made : term_views l.terms.items ++ symbolic_views (problem_of l.fn.kept) (drop l.term-index l.term-items)
      ≡ symbolic_views (problem_of l.fn.kept) l.term-items;
}
