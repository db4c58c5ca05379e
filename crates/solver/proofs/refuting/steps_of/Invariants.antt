use Rattle.std.proofs.Common.{take}
use Rattle.solver.specs.inner.Flats.{flats_view}
use Rattle.numbering.specs.inner.KnownProblem.{problem}
use Rattle.solver.specs.inner.Steps.{AreStepsOf}
use Rattle.solver.specs.Refusing.{AreListed, AreSpelt}
use Rattle.solver.proofs.refuting.steps_of.Given as goal

abbrev pub invariant-row : goal.invariant-row
invariant-row g l = AreListed (problem l.known) l.table l.spaces × AreSpelt l.table l.spaces
    × AreStepsOf (problem l.known) l.table (take l.flat-index (flats_view g.S.States.tests l.row)) l.steps
