use Rattle.model.proofs.Accepting.{refused-is}
use Rattle.model.proofs.refutations.refusals_decide.Goals as goal

pub returns : goal.returns
returns c = λ q steps plain. refused-is q steps plain
