use Rattle.axioms.specs.inner.Keeping.{FeatureAsk}
use Rattle.axioms.specs.inner.KeptViews.{problem_of}
use Rattle.axioms.proofs.Keeping.{put_lacking}
use Rattle.axioms.proofs.instances.kept.Kept.put_lacking.Goals as goal

pub invariant_of-self-clause-are_lacking : goal.invariant_of-self-clause-are_lacking
invariant_of-self-clause-are_lacking c =
    let place : FeatureAsk = ((c.args.name, c.args.feature), c.args.class) in
    put_lacking (problem_of c.args.self.now) c.args.self.now.lacking c.insert.new.self place c.args.states
    c.insert.result c.insert.ensures.updates c.insert.ensures.err c.args.self.now.are_lacking c.requires
