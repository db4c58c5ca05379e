use Rattle.std.proofs.Common.{◌∙◌, sym}
use Rattle.std.proofs.lemmas.Result.{IfOk-weaker}
use Rattle.classes.specs.Classes.{class_view}
use Rattle.axioms.specs.inner.KeptViews.{problem_of}
use Rattle.axioms.proofs.Had.{alone_is}
use Rattle.axioms.proofs.instances.instance.instance_terms.Goals as goal

pub returns-in-Feature-clause-terms : goal.returns-in-Feature-clause-terms
returns-in-Feature-clause-terms c =
    let f = c.in-Feature in
    rw f.is (IfOk-weaker c.on_alone.result _ _
    (λ v e. e ∙ sym (alone_is (problem_of c.args.kept.now) f.name.now (class_view f.class) f.feature.now
    (c.lacks.ensures c.if-lacks.true)))
    c.on_alone.ensures)
