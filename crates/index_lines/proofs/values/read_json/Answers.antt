use Rattle.trees.specs.Trees.{data_of_bytes}
use Rattle.index_lines.proofs.ReadLemmas.{found-there}
use Rattle.index_lines.proofs.values.read_json.Goals as goal

pub returns-in-Ok : goal.returns-in-Ok
returns-in-Ok c = found-there (data_of_bytes c.args.bytes.now) _ c.in-Ok.ensures
