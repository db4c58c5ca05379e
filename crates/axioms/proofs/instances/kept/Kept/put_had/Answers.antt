use Rattle.std.proofs.Common.{◌∙◌}
use Rattle.classes.specs.Classes.{class_view}
use Rattle.axioms.specs.inner.Keeping.{NameClass}
use Rattle.axioms.specs.inner.KeptViews.{problem_of}
use Rattle.axioms.proofs.Had.{had_is}
use Rattle.axioms.proofs.Keeping.{put_had}
use Rattle.axioms.proofs.instances.kept.Kept.put_had.Goals as goal

pub invariant_of-self-clause-are_had : goal.invariant_of-self-clause-are_had
invariant_of-self-clause-are_had c =
    let place : NameClass = (c.args.name, c.args.class) in
    let p = c.args.self.now.problem in
    put_had (problem_of c.args.self.now) c.args.self.now.had c.insert.new.self place c.in_ok-had.had
    c.insert.result c.insert.ensures.updates c.insert.ensures.err c.args.self.now.are_had
    (λ f. c.in_ok-had.ensures f ∙ had_is p.manifest.now p.catalogue.now c.args.name.now (class_view c.args.class)
    c.class_candidates-candidates.result.now c.class_candidates-candidates.ensures f)
