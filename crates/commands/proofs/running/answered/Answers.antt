use Rattle.std.proofs.Common.{◌≡◌, [], inl, inr, refl}
use Rattle.commands.specs.Lines.{told_of}
use Rattle.commands.proofs.Both.{both_if_err, err_with, map_err, map_ok, ok_with, three_if_ok}
use Rattle.commands.proofs.running.answered.Goals as goal

pub returns-in-Ok-clause-answers : goal.returns-in-Ok-clause-answers
returns-in-Ok-clause-answers g c =
    let answer = c.in-Ok.answer in
    let given = c.print_answer.result in
    let told = told_of answer given.status in
    rw c.in-Resolve.is (
      told,
      three_if_ok given.status
          (λ status printed filed is_told. (answer, c.in-Ok.ensures.answer, printed, filed, is_told))
          c.print_answer.ensures.printed c.print_answer.ensures.filed
          (ok_with given.status (λ r. told ≡ told_of answer r) refl),
      both_if_err given.status (λ ending unwritten is_told. inr (answer, c.in-Ok.ensures.answer, unwritten, is_told))
          c.print_answer.ensures.unwritten (err_with given.status (λ r. told ≡ told_of answer r) refl),
      c.print_answer.ensures.told,
    )

pub returns-in-Err-clause-answers : goal.returns-in-Err-clause-answers
returns-in-Err-clause-answers g c = rw (c.in-Resolve.is, c.quiet-in-Err.ensures.status)
    ([], tt, inl (c.in-Err.ensures.lacks, refl, refl), (c.quiet-in-Err.ensures.told, refl))

pub returns-in-Verify-clause-answers : goal.returns-in-Verify-clause-answers
returns-in-Verify-clause-answers g c = rw (c.in-Verify.is, c.quiet.ensures.status) (
  [],
  map_ok c.verify_at.result (λ status said. (said, refl, refl)) c.verify_at.ensures.answers,
  map_err c.verify_at.result (λ ending lacks. (lacks, refl, refl)) c.verify_at.ensures.ends,
  (c.quiet.ensures.told, refl),
)

pub returns-in-Check-clause-answers : goal.returns-in-Check-clause-answers
returns-in-Check-clause-answers g c = rw (c.in-Check.is, c.quiet-in-Check.ensures.status) (
  [],
  map_ok c.check_at.result (λ status said. (said, refl, refl)) c.check_at.ensures.answers,
  map_err c.check_at.result (λ ending lacks. (lacks, refl, refl)) c.check_at.ensures.ends,
  (c.quiet-in-Check.ensures.told, refl),
)

pub returns-in-Explain-clause-answers : goal.returns-in-Explain-clause-answers
returns-in-Explain-clause-answers g c = rw (c.in-Explain.is, c.quiet-in-Explain.ensures.status) (
  [],
  map_ok c.explain_at.result (λ status said. (said, refl, refl)) c.explain_at.ensures.answers,
  map_err c.explain_at.result (λ ending lacks. (lacks, refl, refl)) c.explain_at.ensures.ends,
  (c.quiet-in-Explain.ensures.told, refl),
)
