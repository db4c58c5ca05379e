use Rattle.std.proofs.Common.{◌≡◌, take, Contains}
use Rattle.terms.specs.Terms.{terms_view}
use Rattle.numbering.specs.inner.KnownProblem.{problem}
use Rattle.numbering.specs.Numberings.{AddsOnly, IsGrown, IsNumbering}
use Rattle.numbering.specs.inner.TestedTerms.{AreOfTested, tested_views, vertices_of}
use Rattle.numbering.proofs.instances.put_all_tested.Given as goal

-- the terms so far are of the tested terms so far
abbrev pub invariant-tested_terms : goal.invariant-tested_terms
invariant-tested_terms g l = record {
  same : l.known ≡ l.fn.known;
  grown : IsGrown l.fn.table l.table;
  numbering : IsNumbering (problem l.fn.known) l.table;
  only : AddsOnly (Contains (vertices_of (tested_views l.tested_terms))) l.fn.table l.table;
  are : AreOfTested l.table (terms_view g.S.States.tests l.terms.items)
      (tested_views (take l.tested_term-index l.tested_terms));
}
