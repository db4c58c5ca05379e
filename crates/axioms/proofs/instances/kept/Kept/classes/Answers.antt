use Rattle.std.proofs.Common.{sym, subst}
use Rattle.features.specs.Views.{requirement_view}
use Rattle.axioms.specs.inner.Keeping.{AreAll, Ask, classes_in}
use Rattle.axioms.specs.inner.KeptViews.{problem_of}
use Rattle.axioms.proofs.instances.kept.Kept.classes.Goals as goal

pub returns-in-Some : goal.returns-in-Some
returns-in-Some c =
    let d = c.args.dependency in
    let ask : Ask = (record { ref_ptr = d.ref_ptr; now = d.now.real_name }, c.deref-requirement.result) in
    subst (AreAll _) (sym c.as_slice.ensures.value)
    (subst (λ r. AreAll (classes_in (problem_of c.args.self.now) d.now.real_name (requirement_view r))
    c.in-Some.classes.now.items) c.deref-requirement.ensures
    (c.args.self.now.are_classes ask c.in-Some.classes.now (sym c.in-Some.ensures.value)))
