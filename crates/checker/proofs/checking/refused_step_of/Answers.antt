use Rattle.std.proofs.Common.{◌∙◌, sym, ap₂, subst}
use Rattle.std.proofs.lemmas.Result.{IfOk-weaker}
use Rattle.model.specs.inner.Checks.{refused_step}
use Rattle.derivations.specs.inner.Derivations.{IsDerivation}
use Rattle.checker.proofs.StepLaws.{each_step}
use Rattle.checker.proofs.checking.refused_step_of.Goals as goal

pub answer-requires : goal.answer-requires
answer-requires c = each_step c.parts.result.0.now 0 c.parts.result.1.now c.parts.ensures.within
    (subst IsDerivation (sym c.parts.ensures.steps) c.parts.ensures.derivation)

pub returns-clause-refused_step : goal.returns-clause-refused_step
returns-clause-refused_step c = IfOk-weaker c.answer.result _ _
    (λ k h. h ∙ ap₂ refused_step c.in_ok-gathered.ensures c.parts.ensures.steps) c.answer.ensures
