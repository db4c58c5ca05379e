use Rattle.trees.proofs.PartsLemmas.{line-members}
use Rattle.trees.proofs.parts.lines_have_what_parts_have.Goals as goal

pub returns : goal.returns
returns c = line-members
