use Rattle.std.proofs.lemmas.Result.{IfOk-weaker}
use Rattle.clap.specs.Words.{AddsArg}
use Rattle.words.proofs.Commands.{is_not_global}
use Rattle.words.proofs.command.with_option.Goals as goal

pub returns : goal.returns
returns c = IfOk-weaker c.arg.result _ _ (λ r (added : AddsArg c.args.command c.args.option r).
    added.shape (is_not_global c.args.option c.requires.simple)) c.arg.ensures
