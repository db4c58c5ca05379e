use Rattle.model.proofs.Ordered.{order-unique, kept-differ}
use Rattle.model.proofs.package_order_is_unique.Goals as goal

pub returns : goal.returns
returns c = λ q kept sorted known owners distinct permuted sort.
    order-unique q kept sorted (kept-differ q known kept owners distinct) permuted sort
