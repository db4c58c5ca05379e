use Rattle.std.proofs.Common.{rules, subst}
use Rattle.index_lines.specs.inner.Known.{IsSaid}
use Rattle.index_lines.specs.inner.ShapeViews.{part_view}
use Rattle.index_lines.proofs.known.KnownDependencies.find.Goals as goal

pub invariant_of-again : goal.invariant_of-again
invariant_of-again c = record {
  says = subst (IsSaid (part_view c.args.part.now)) (search rules) (c.is_of.ensures c.if-not-is_of.false);
}
