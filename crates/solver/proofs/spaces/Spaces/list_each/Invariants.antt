use Rattle.std.proofs.Common.{◌≡◌, All, take}
use Rattle.numbering.specs.inner.KnownProblem.{problem}
use Rattle.solver.specs.Refusing.{AreKept, AreListed, AreSpelt, IsListed}
use Rattle.solver.proofs.spaces.Spaces.list_each.Given as goal

abbrev pub invariant-terms : goal.invariant-terms
invariant-terms g l = AreListed (problem l.known) l.table l.self × AreSpelt l.table l.self × (l.steps ≡ l.fn.steps)
    × AreKept l.fn.self l.self × All (λ t. IsListed l.table l.self t.vertex) (take l.term-index l.terms)
