use Rattle.std.proofs.Common.{arith}
use Rattle.features.proofs.TextLemmas.{around-split}
use Rattle.features.proofs.versioned.name_and_version.Goals as goal

pub returns : goal.returns
returns c = around-split 64 c.args.text.now c.split_once.result (c.split_once.ensures.byte (omega arith) (λ w o h. h))
