use Rattle.incompatibilities.specs.Stores.{entries_view}
use Rattle.propagation.specs.Trails.{trail_view}
use Rattle.search_tests.proofs.Fitting.{meets_still}
use Rattle.search_tests.proofs.trial.Trial.decide.Goals as goal

pub invariant_of-self-2 : goal.invariant_of-self-2
invariant_of-self-2 g c =
    let tests = g.S.States.tests in
    let es = entries_view tests c.self.inside.store in
    meets_still c.self.inside.spaces.items es (trail_view tests c.self.inside.trail)
    (trail_view tests c.decide.new.self) c.self.invariant (c.decide.ensures.trail es c.self.invariant.trail)
    c.decide.ensures.spaces
