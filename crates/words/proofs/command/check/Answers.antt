use Rattle.std.proofs.Common.{◌≡◌, ◌∙◌, [], ◌∷◌, codes, ap₂, rules}
use Rattle.std.proofs.lemmas.Result.{IfOk-weaker}
use Rattle.clap.specs.Words.{app_of, new_app, with_rule}
use Rattle.words.specs.Asked.{required, with_rules, manifest_option, index_option, lock_option, proof_option}
use Rattle.words.proofs.command.check.Goals as goal

pub returns : goal.returns
returns c =
    let bare : app_of c.about-command.result ≡ new_app (codes "check") = search rules in
    let manifest_in = c.in_ok-command.ensures ∙ ap₂ with_rule bare c.manifest.ensures in
    let index_in = c.in_ok-command-2.ensures ∙ ap₂ with_rule manifest_in c.index.ensures in
    let lock_in = c.in_ok-command-3.ensures ∙ ap₂ with_rule index_in c.lock.ensures in
    let proof_in : app_of c.in_ok-command-4.command ≡ with_rules (new_app (codes "check"))
    (manifest_option ∷ index_option ∷ lock_option ∷ required proof_option ∷ []) =
    c.in_ok-command-4.ensures ∙ ap₂ with_rule lock_in c.derivation.ensures in
    IfOk-weaker c.with_option-5.result _ _
    (λ r added. added ∙ ap₂ with_rule proof_in c.source.ensures) c.with_option-5.ensures
