use Rattle.model.proofs.AnyOrder.{combination-apart}
use Rattle.model.proofs.refutations.combinations_are_plain.Goals as goal

pub returns : goal.returns
returns c = λ q v a b h k. combination-apart q v a b h k
