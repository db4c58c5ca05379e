use Rattle.std.proofs.Common.{take}
use Rattle.checker.specs.inner.Naming.{AreNamedSteps, IsNaming}
use Rattle.checker.proofs.naming.names_of.Given as goal

abbrev pub invariant-steps : goal.invariant-steps
invariant-steps l = record {
  sound : IsNaming l.tables l.naming;
  named : AreNamedSteps l.tables l.naming (take l.step-index l.steps);
}
