use Rattle.trees.proofs.TokenLemmas.{begins-read}
use Rattle.trees.proofs.reading.root.Goals as goal

pub invariant_of-result : goal.invariant_of-result
invariant_of-result c =
    record { begins = begins-read c.root.result c.root.ensures.value.0 c.root.ensures.value.1 }
