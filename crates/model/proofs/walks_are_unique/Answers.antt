use Rattle.model.specs.Walk.{Picks}
use Rattle.model.proofs.Unique.{one_content}
use Rattle.model.proofs.walks_are_unique.Goals as goal

pub returns : goal.returns
returns c = λ q preferred a b walk other. one_content q (Picks q preferred) a b walk other
