use Rattle.std.proofs.Common.{◌≡◌, ◌∙◌, ap, ap₂, rules}
use Rattle.std.proofs.lemmas.Result.{IfOk-weaker}
use Rattle.clap.specs.Words.{App, app_of, with_subcommand}
use Rattle.words.specs.Asked.{bare_app, resolve_app, verify_app, check_app}
use Rattle.words.proofs.command.relock.Goals as goal

top_is : {a b : App} → a ≡ b → a.top ≡ b.top
top_is h = ap (λ (a : App). a.top) h

pub returns : goal.returns
returns c =
    let bare : app_of c.subcommand_required-program.result ≡ bare_app = search rules in
    let resolve_in : app_of c.in_ok-program.program ≡ with_subcommand bare_app resolve_app.top =
    c.in_ok-program.ensures ∙ ap₂ with_subcommand bare (top_is c.in_ok-resolve.ensures) in
    let verify_in : app_of c.in_ok-program-2.program
    ≡ with_subcommand (with_subcommand bare_app resolve_app.top) verify_app.top =
    c.in_ok-program-2.ensures ∙ ap₂ with_subcommand resolve_in (top_is c.in_ok-verify.ensures) in
    let check_in : app_of c.in_ok-program-3.program
    ≡ with_subcommand (with_subcommand (with_subcommand bare_app resolve_app.top) verify_app.top) check_app.top =
    c.in_ok-program-3.ensures ∙ ap₂ with_subcommand verify_in (top_is c.in_ok-check.ensures) in
    IfOk-weaker c.with_command-4.result _ _
    (λ r added. added ∙ ap₂ with_subcommand check_in (top_is c.in_ok-explain.ensures)) c.with_command-4.ensures
