use Rattle.trees.proofs.PartsLemmas.{line-by_parts}
use Rattle.trees.proofs.parts.lines_are_read_by_parts.Goals as goal

pub returns : goal.returns
returns c = line-by_parts
