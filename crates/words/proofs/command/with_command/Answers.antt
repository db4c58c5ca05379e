use Rattle.std.proofs.lemmas.Result.{IfOk-weaker}
use Rattle.clap.specs.Words.{AddsSubcommand}
use Rattle.words.proofs.Commands.{is_local}
use Rattle.words.proofs.command.with_command.Goals as goal

pub returns : goal.returns
returns c = IfOk-weaker c.subcommand.result _ _ (λ r (added : AddsSubcommand c.args.program c.args.command r).
    added.shape (is_local c.args.command c.requires.plain)) c.subcommand.ensures
