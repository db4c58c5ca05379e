use Rattle.version_sets.proofs.Pairs.{lone_apart}
use Rattle.version_sets.proofs.words.WordStatesStates.disjoint.Goals as goal

pub returns-in-Some : goal.returns-in-Some
returns-in-Some c = lone_apart c.args.self.now c.args.other.now c.in-Some.a c.in-Some.b c.in-Some.ensures.one.0
    c.in-Some.ensures.one.1 c.requires
