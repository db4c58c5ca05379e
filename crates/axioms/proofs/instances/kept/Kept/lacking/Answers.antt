use Rattle.std.proofs.Common.{sym}
use Rattle.axioms.specs.inner.Keeping.{FeatureAsk}
use Rattle.axioms.proofs.instances.kept.Kept.lacking.Goals as goal

pub returns-in-Some : goal.returns-in-Some
returns-in-Some c =
    let place : FeatureAsk = ((c.args.name, c.args.feature), c.args.class) in
    c.args.self.now.are_lacking place c.in-Some.states.now (sym c.in-Some.ensures.value)
