use Rattle.std.proofs.Common.{◌≡◌, length, sym, ap, ◌∙◌, rules}
use Rattle.std.proofs.lemmas.List.{length-map}
use Rattle.derivations.specs.inner.Tables.{step_at}
use Rattle.derivations.proofs.derivation.Derivation.len.Goals as goal

pub returns : goal.returns
returns c =
    let counted : c.len.result ≡ length c.self.inside.steps.items = search rules in
    counted ∙ sym (length-map c.self.inside.steps.items (step_at c.self.inside.tables)) ∙ ap length c.self.view_is
