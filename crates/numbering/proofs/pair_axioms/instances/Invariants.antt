use Rattle.std.proofs.Common.{◌≡◌, take, Contains}
use Rattle.numbering.specs.GivenViews.{cause_views, given_views}
use Rattle.numbering.specs.inner.KnownProblem.{problem}
use Rattle.numbering.specs.Numberings.{AddsOnly, IsGrown, IsNumbering}
use Rattle.numbering.specs.Pairs.{AreGiven, IsSpokenOf}
use Rattle.numbering.proofs.pair_axioms.instances.Given as goal

-- the instances so far are those of the causes so far
abbrev pub invariant-causes : goal.invariant-causes
invariant-causes g l = record {
  same : l.known ≡ l.fn.known;
  grown : IsGrown l.fn.table l.table;
  numbering : IsNumbering (problem l.fn.known) l.table;
  only : AddsOnly (IsSpokenOf (problem l.fn.known) (Contains (cause_views l.causes))) l.fn.table l.table;
  are : AreGiven (problem l.fn.known) l.table (cause_views (take l.cause-index l.causes))
      (given_views g.S.States.tests l.given.items);
}
