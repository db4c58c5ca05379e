use Rattle.model.specs.Walk.{Picks}
use Rattle.model.proofs.Gathered.{gathered}
use Rattle.model.proofs.gathered_picks_walk.Goals as goal

pub returns : goal.returns
returns c = λ q preferred kept known are. gathered q (Picks q preferred) known kept are
