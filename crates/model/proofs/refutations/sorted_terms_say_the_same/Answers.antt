use Rattle.model.proofs.AnyOrder.{sorted-same}
use Rattle.model.proofs.refutations.sorted_terms_say_the_same.Goals as goal

pub returns : goal.returns
returns c = λ a b p h. sorted-same a b p h
