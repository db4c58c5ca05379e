use Rattle.std.proofs.Common.{take}
use Rattle.numbering.specs.GivenViews.{given_views}
use Rattle.encoding.specs.Everywhere.{IsGivenFor, all_pairs}
use Rattle.encoding.proofs.whole.Encoding.axioms.Given as goal

-- the instances of the vertices so far
abbrev pub invariant-vertices : goal.invariant-vertices
invariant-vertices g l = IsGivenFor l.self.problem l.self.vertices
    (all_pairs l.self.problem (take l.vertex l.self.vertices)) (given_views g.S.States.tests l.given.items)
