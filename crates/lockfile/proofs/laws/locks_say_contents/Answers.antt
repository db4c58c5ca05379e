use Rattle.lockfile.proofs.ReadContents.{said-content}
use Rattle.lockfile.proofs.laws.locks_say_contents.Goals as goal

pub returns : goal.returns
returns c = said-content
