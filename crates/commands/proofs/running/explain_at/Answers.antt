use Rattle.std.proofs.Common.{inl, inr, string_bytes, subst, sym}
use Rattle.std.proofs.lemmas.Result.{err_from_is_err_and}
use Rattle.commands.proofs.running.explain_at.Goals as goal

pub returns-clause-answers : goal.returns-clause-answers
returns-clause-answers g c = (
  string_bytes c.in_ok-text.text,
  c.in_ok-text.ensures.text,
  c.in_ok-status.ensures.printed.0,
  rw (sym c.as_bytes.ensures.value) c.in_ok-status.ensures.printed.1,
)

pub returns-in_err-status-clause-ends : goal.returns-in_err-status-clause-ends
returns-in_err-status-clause-ends g c =
    let p = err_from_is_err_and c.from_residual-in_err-status.result c.from_residual-in_err-status.ensures.1 in
    let unwritten = subst (λ b. g.O.Stream.fails c.args.out.now b c.print_bytes.new.out) c.as_bytes.ensures.value
    c.in_err-status.ensures.unwritten.1 in
    rw (p.1, p.2) (inr (
      string_bytes c.in_ok-text.text,
      c.in_ok-text.ensures.text,
      c.in_err-status.ensures.unwritten.0,
      unwritten,
    ))

pub returns-in_err-text-clause-ends : goal.returns-in_err-text-clause-ends
returns-in_err-text-clause-ends g c =
    let p = err_from_is_err_and c.from_residual.result c.from_residual.ensures.1 in
    rw (p.1, p.2) (inl c.in_err-text.ensures.lacks)
