use Rattle.catalogue.proofs.LawsSelections.{holds_still}
use Rattle.catalogue.proofs.laws.selections_hold_with_other_locks.Goals as goal

pub returns : goal.returns
returns c = holds_still
