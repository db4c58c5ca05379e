use Rattle.std.proofs.Common.{◌≡◌, [], take, drop}
use Rattle.model.specs.inner.Checks.{first_refused}
use Rattle.axioms.specs.inner.GatheredViews.{problem_of}
use Rattle.derivations.specs.inner.Tables.{steps_at}
use Rattle.checker.specs.inner.Ready.{tables_of}
use Rattle.checker.proofs.checking.first_refused.Given as goal

-- none of the steps so far is refused
abbrev pub invariant-steps : goal.invariant-steps
invariant-steps l = record {
  same : problem_of l.gathered ≡ problem_of l.fn.gathered;
  told : first_refused (problem_of l.fn.gathered) (steps_at (tables_of l.names) (take l.number l.steps))
      (steps_at (tables_of l.names) (drop l.number l.steps))
      ≡ first_refused (problem_of l.fn.gathered) [] (steps_at (tables_of l.names) l.steps);
}
