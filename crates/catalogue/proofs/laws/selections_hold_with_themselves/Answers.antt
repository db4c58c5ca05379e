use Rattle.catalogue.proofs.LawsSelections.{holds_again}
use Rattle.catalogue.proofs.laws.selections_hold_with_themselves.Goals as goal

pub returns : goal.returns
returns c = holds_again
