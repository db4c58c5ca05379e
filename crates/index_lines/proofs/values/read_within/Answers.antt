use Rattle.trees.specs.inner.Parts.{data_within}
use Rattle.index_lines.proofs.ReadLemmas.{found-there}
use Rattle.index_lines.proofs.values.read_within.Goals as goal

pub returns-in-Ok : goal.returns-in-Ok
returns-in-Ok c = found-there (data_within c.args.depth c.args.bytes.now) _ c.in-Ok.ensures
