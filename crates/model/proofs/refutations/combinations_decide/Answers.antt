use Rattle.model.proofs.Sets.{is_combination-is}
use Rattle.model.proofs.refutations.combinations_decide.Goals as goal

pub returns : goal.returns
returns c = λ q v a b ts. is_combination-is q v a b ts
