use Rattle.numbering.proofs.Final.{breaks_not}
use Rattle.numbering.proofs.final_assignments_break_none.Goals as goal

pub returns : goal.returns
returns c = λ sets f x final one rest broken. breaks_not sets f x final one rest broken
