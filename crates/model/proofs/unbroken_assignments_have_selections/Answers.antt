use Rattle.model.proofs.Choices.{selects}
use Rattle.model.proofs.unbroken_assignments_have_selections.Goals as goal

pub returns : goal.returns
returns c = λ q state known ok. selects q state ok known
