use Rattle.numbering.proofs.Sound.{breaks_none}
use Rattle.numbering.proofs.selections_break_none.Goals as goal

pub returns : goal.returns
returns c = λ q vs content x k ts made known numbering valid of instance says broken.
    breaks_none q vs content x of k ts made known valid instance says broken
