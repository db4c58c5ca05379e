use Rattle.std.proofs.Common.{◌∙◌}
use Rattle.checker.proofs.StepLaws.{none_left}
use Rattle.checker.proofs.checking.has_no_term.Goals as goal

pub returns : goal.returns
returns c t = c.is_empty.ensures ∙ none_left t c.args.terms.now
