use Rattle.std.proofs.Common.{◌∙◌, ap, sym}
use Rattle.classes.specs.Classes.{class_view}
use Rattle.features.specs.Views.{requirement_view}
use Rattle.axioms.specs.inner.Keeping.{ClassAsk, some_in}
use Rattle.axioms.specs.inner.KeptViews.{problem_of}
use Rattle.axioms.proofs.instances.kept.Kept.has_class.Goals as goal

pub returns-in-Some : goal.returns-in-Some
returns-in-Some c =
    let d = c.args.dependency in
    let place : ClassAsk =
    ((record { ref_ptr = d.ref_ptr; now = d.now.real_name }, c.deref-requirement.result), c.args.class) in
    c.args.self.now.are_some place c.in-Some.is_some.now (sym c.in-Some.ensures.value)
    ∙ ap (λ r. some_in (problem_of c.args.self.now) d.now.real_name (requirement_view r) (class_view c.args.class))
    c.deref-requirement.ensures
