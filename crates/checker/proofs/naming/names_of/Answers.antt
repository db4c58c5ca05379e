use Rattle.std.proofs.Common.{◌∙◌, subst, take_all}
use Rattle.std.proofs.lemmas.Result.{IfOk-weaker}
use Rattle.checker.specs.inner.Naming.{AreNamedSteps}
use Rattle.checker.proofs.NamingLaws.{all_ready}
use Rattle.checker.proofs.naming.names_of.Goals as goal

pub returns-clause-ready : goal.returns-clause-ready
returns-clause-ready c =
    let t = c.args.tables.now in
    let named = subst (AreNamedSteps t c.steps.naming)
    (take_all c.steps.step-index c.args.steps.now c.steps-test.false) c.steps.invariant.named in
    all_ready t c.steps.naming c.finish.result c.args.steps.now c.requires named
    (IfOk-weaker c.finish.result _ _ (λ d h. h ∙ c.steps.invariant.sound.tables) c.finish.ensures.tables)
    c.finish.ensures.bound c.finish.ensures.sets
