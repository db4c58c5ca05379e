use Rattle.model.proofs.Sets.{same_terms-is}
use Rattle.model.proofs.refutations.comparisons_decide.Goals as goal

pub returns : goal.returns
returns c = λ a b. same_terms-is a b
