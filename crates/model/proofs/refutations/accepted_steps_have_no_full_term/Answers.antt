use Rattle.model.proofs.NoFull.{steps-not_full}
use Rattle.model.proofs.refutations.accepted_steps_have_no_full_term.Goals as goal

pub returns : goal.returns
returns c = λ q steps are. steps-not_full q steps are
