use Rattle.std.proofs.Common.{◌∙◌, ap, sym}
use Rattle.classes.specs.Classes.{class_view}
use Rattle.features.specs.Views.{requirement_view}
use Rattle.axioms.specs.inner.Keeping.{ClassAsk, some_in}
use Rattle.axioms.specs.inner.KeptViews.{problem_of}
use Rattle.axioms.proofs.Keeping.{put_kept}
use Rattle.axioms.proofs.instances.kept.Kept.put_some.Goals as goal

pub invariant_of-self-clause-are_some : goal.invariant_of-self-clause-are_some
invariant_of-self-clause-are_some c =
    let d = c.args.dependency in
    let q = problem_of c.args.self.now in
    let place : ClassAsk =
    ((record { ref_ptr = d.ref_ptr; now = d.now.real_name }, c.deref-requirement.result), c.args.class) in
    put_kept (some_in q) c.args.self.now.some c.insert.new.self place c.has_class-is_some.result c.insert.result
    c.insert.ensures.updates c.insert.ensures.err c.args.self.now.are_some
    (c.has_class-is_some.ensures
    ∙ ap (λ r. some_in q d.now.real_name (requirement_view r) (class_view c.args.class))
    (sym c.deref-requirement.ensures))
