use Rattle.model.proofs.InOrder.{one_in_order}
use Rattle.model.proofs.refutations.ordered_terms_are_one.Goals as goal

pub returns : goal.returns
returns c =
    λ by_vertex by_state vertices states a b h k same. one_in_order by_vertex by_state vertices states a b h k same
