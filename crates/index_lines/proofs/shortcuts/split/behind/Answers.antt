use Rattle.index_lines.proofs.CutLemmas.{stripped}
use Rattle.index_lines.proofs.shortcuts.split.behind.Goals as goal

pub returns : goal.returns
returns c = stripped c.strip_prefix.result c.args.bytes.now c.args.text.now c.strip_prefix.ensures.cases
