use Rattle.std.proofs.Common.{◌∙◌}
use Rattle.axioms.proofs.EntryLemmas.{has_is}
use Rattle.axioms.proofs.entries.has_named.Goals as goal

pub returns : goal.returns
returns c = c.contains.ensures ∙ has_is c.args.set.now c.args.named.now
