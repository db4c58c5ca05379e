use Rattle.numbering.proofs.tested_terms.tested.Goals as goal

pub returns-in-Unmatched : goal.returns-in-Unmatched
returns-in-Unmatched c = rw c.in-Unmatched.is c.left.ensures

pub returns-in-Lacking : goal.returns-in-Lacking
returns-in-Lacking c = rw c.in-Lacking.is c.lacking.ensures
