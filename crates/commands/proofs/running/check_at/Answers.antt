use Rattle.std.proofs.Common.{inr}
use Rattle.std.proofs.lemmas.Result.{err_from_is_err_and}
use Rattle.commands.proofs.running.check_at.Goals as goal

pub returns-clause-answers : goal.returns-clause-answers
returns-clause-answers g c = (
  c.in_ok-checked.checked,
  c.in_ok-checked.ensures.check,
  c.in_ok-status.ensures.printed.0,
  c.in_ok-status.ensures.printed.1,
)

pub returns-in_err-status-clause-ends : goal.returns-in_err-status-clause-ends
returns-in_err-status-clause-ends g c =
    let p = err_from_is_err_and c.from_residual-in_err-status.result c.from_residual-in_err-status.ensures.1 in
    rw (p.1, p.2) (inr (
      c.in_ok-checked.checked,
      c.in_ok-checked.ensures.check,
      c.in_err-status.ensures.unwritten.0,
      c.in_err-status.ensures.unwritten.1,
    ))
