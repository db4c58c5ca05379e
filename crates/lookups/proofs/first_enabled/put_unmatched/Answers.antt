use Rattle.std.proofs.Common.{sym, ap, ◌∙◌}
use Rattle.std.proofs.lemmas.Result.{on_ok_weaker}
use Rattle.features.specs.Views.{dependency_view}
use Rattle.model.specs.Causes.{is_unmatched}
use Rattle.lookups.specs.inner.Views.{problem_view}
use Rattle.lookups.proofs.ByNames.{gone_kept, gone_put}
use Rattle.lookups.proofs.first_enabled.put_unmatched.Goals as goal

pub returns-then-is_unmatched : goal.returns-then-is_unmatched
returns-then-is_unmatched c =
    let q = problem_view c.args.problem.now in
    on_ok_weaker c.put_new.result (λ put.
    gone_put q c.args.numbers.now c.put_new.new.values c.args.number
    (dependency_view c.args.dependency.now) c.as_str.result.now
    (c.as_str.ensures.text ∙ ap (λ d. d.name) c.deref-then-is_unmatched.ensures)
    (ap (λ d. is_unmatched q (dependency_view d)) (sym c.deref.ensures) ∙ sym c.is_unmatched.ensures
    ∙ c.if-is_unmatched.true) put) c.put_new.ensures

pub returns-else-is_unmatched : goal.returns-else-is_unmatched
returns-else-is_unmatched c =
    let q = problem_view c.args.problem.now in
    gone_kept q c.args.numbers.now c.args.number (dependency_view c.args.dependency.now)
    (ap (λ d. is_unmatched q (dependency_view d)) (sym c.deref.ensures) ∙ sym c.is_unmatched.ensures
    ∙ c.if-is_unmatched.false)
