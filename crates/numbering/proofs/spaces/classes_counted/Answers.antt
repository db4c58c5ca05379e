use Rattle.std.proofs.Common.{arith}
use Rattle.model.specs.Vertices.{dep}
use Rattle.numbering.specs.inner.KnownProblem.{problem}
use Rattle.vertices.specs.inner.RefViews.{owner_ref_view}
use Rattle.numbering.proofs.Stated.{classes_long}
use Rattle.numbering.proofs.spaces.classes_counted.Goals as goal

pub overflow_add-result : goal.overflow_add-result
overflow_add-result c =
    let o = owner_ref_view c.args.owner.now in
    let few = (c.spaces_are_small.ensures (dep o c.args.dependency)).1 in
    let is = c.in_ok-class_count.ensures in
    let long = classes_long (problem c.args.known.now) o c.args.dependency in
    omega (arith, few, is, long)

pub returns : goal.returns
returns c =
    let is = c.in_ok-class_count.ensures in
    let long = classes_long (problem c.args.known.now) (owner_ref_view c.args.owner.now) c.args.dependency in
    omega (arith, is, long)
