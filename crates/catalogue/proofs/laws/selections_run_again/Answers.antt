use Rattle.catalogue.proofs.LawsReruns.{runs_again}
use Rattle.catalogue.proofs.laws.selections_run_again.Goals as goal

pub returns : goal.returns
returns c = runs_again
