use Rattle.selection.proofs.picking.is_matched.Goals as goal

pub returns-in-Some : goal.returns-in-Some
returns-in-Some c = rw c.in-Some.is c.is_matched.ensures
