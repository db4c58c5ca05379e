use Rattle.std.proofs.Common.{◌≡◌}
use Rattle.numbering.specs.inner.KnownProblem.{problem}
use Rattle.solver.specs.Refusing.{AreListed, AreSpelt}
use Rattle.solver.proofs.listing.list_by_text.Given as goal

abbrev pub invariant-vertices : goal.invariant-vertices
invariant-vertices g l =
    AreListed (problem l.known) l.table l.spaces × AreSpelt l.table l.spaces × (l.steps ≡ l.fn.steps)
