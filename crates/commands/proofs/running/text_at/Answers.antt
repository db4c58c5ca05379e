use Rattle.std.proofs.Common.{inr}
use Rattle.std.proofs.lemmas.Result.{err_from_is_err_and}
use Rattle.commands.proofs.running.text_at.Goals as goal

pub returns-clause-text : goal.returns-clause-text
returns-clause-text g c = record {
  steps = c.in_ok-derivation.derivation;
  derivation = c.in_ok-derivation.ensures.derivation;
  explained = c.in_ok-text.ensures;
}

pub returns-in_err-text-clause-lacks : goal.returns-in_err-text-clause-lacks
returns-in_err-text-clause-lacks g c =
    let p = err_from_is_err_and c.from_residual-in_err-text.result c.from_residual-in_err-text.ensures.1 in
    rw p.1 (inr (inr ((c.in_ok-derivation.derivation, c.in_ok-derivation.ensures.derivation), p.2)))
