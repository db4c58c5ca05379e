use Rattle.std.proofs.Common.{◌≡◌, ◌∙◌, Some, ap, false, rules, sym, take}
use Rattle.model.specs.inner.Checks.{is_step}
use Rattle.axioms.specs.inner.GatheredViews.{problem_of}
use Rattle.derivations.specs.inner.Tables.{step_at, steps_at, terms_at}
use Rattle.checker.specs.inner.Ready.{tables_of}
use Rattle.checker.proofs.StepLaws.{refused_at}
use Rattle.checker.proofs.checking.first_refused.Goals as goal

pub returns-then-not-is_step : goal.returns-then-not-is_step
returns-then-not-is_step c =
    let t = tables_of c.args.names.now in
    let q = problem_of c.args.gathered.now in
    let step = c.index-steps-number.result in
    let no : c.is_step.result ≡ false = search rules in
    let same = ap (λ q. is_step q (steps_at t (take c.steps.number c.args.steps.now)) (step_at t step))
    (c.prepare.ensures.same ∙ c.steps.invariant.same) in
    ap (λ r. Some (c.steps.number, r)) (c.reason_of.ensures t (terms_at t step.terms.items))
    ∙ refused_at q t c.args.steps.now c.steps.number step _ c.steps-test.true c.index-steps-number.is
    (sym (c.is_step.ensures ∙ same) ∙ no) c.steps.invariant.told
