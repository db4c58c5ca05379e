use Rattle.numbering.specs.GivenViews.{given_views}
use Rattle.encoding.specs.Everywhere.{IsGivenFor}
use Rattle.encoding.proofs.Pairing.{so_far}
use Rattle.encoding.proofs.whole.Encoding.put_axioms.Given as goal

-- the instances of the vertices before this one, and of this one in the states so far
abbrev pub invariant-states : goal.invariant-states
invariant-states g l =
    IsGivenFor l.self.problem l.self.vertices (so_far l.self.problem l.self.vertices l.vertex l.state)
    (given_views g.S.States.tests l.given.items)
