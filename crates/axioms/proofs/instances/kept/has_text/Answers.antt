use Rattle.std.proofs.Common.{◌∙◌}
use Rattle.features.proofs.DraftLemmas.{contains-has}
use Rattle.axioms.proofs.instances.kept.has_text.Goals as goal

pub returns : goal.returns
returns c = c.contains.ensures ∙ contains-has c.args.name.now c.args.names.now.keys
