use Rattle.std.proofs.Common.{sym, subst}
use Rattle.features.specs.Views.{requirement_view}
use Rattle.axioms.specs.inner.Keeping.{AreAll, Ask, classes_in}
use Rattle.axioms.specs.inner.KeptViews.{problem_of}
use Rattle.axioms.proofs.Keeping.{put_classes}
use Rattle.axioms.proofs.instances.kept.Kept.put_classes.Goals as goal

pub invariant_of-self-clause-are_classes : goal.invariant_of-self-clause-are_classes
invariant_of-self-clause-are_classes c =
    let d = c.args.dependency in
    let q = problem_of c.args.self.now in
    let ask : Ask = (record { ref_ptr = d.ref_ptr; now = d.now.real_name }, c.deref-requirement.result) in
    put_classes q c.args.self.now.classes c.insert.new.self ask c.in_ok-classes.classes c.insert.result
    c.insert.ensures.updates c.insert.ensures.err c.args.self.now.are_classes
    (subst (λ r. AreAll (classes_in q d.now.real_name (requirement_view r)) c.in_ok-classes.classes.items)
    (sym c.deref-requirement.ensures) c.in_ok-classes.ensures)
