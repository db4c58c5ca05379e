use Rattle.catalogue.proofs.LawsIndexes.{run-over}
use Rattle.catalogue.proofs.laws.memory_folders_have_one_index.Goals as goal

pub returns : goal.returns
returns c = run-over
