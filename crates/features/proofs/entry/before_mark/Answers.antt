use Rattle.std.proofs.Common.{codes}
use Rattle.features.proofs.TextLemmas.{before-stripped}
use Rattle.features.proofs.entry.before_mark.Goals as goal

pub returns : goal.returns
returns c = before-stripped (codes "?") c.args.text.now c.strip_suffix.result c.strip_suffix.ensures.cases
