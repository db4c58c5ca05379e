use Rattle.propagation.specs.Trails.{space_of, trail_view}
use Rattle.solver.proofs.solving.found.Goals as goal

pub why_unsolvable-requires-clause-lies : goal.why_unsolvable-requires-clause-lies
why_unsolvable-requires-clause-lies g c =
    (space_of (trail_view g.S.States.tests c.args.searched.now.trail), c.requires.trail.lies)
