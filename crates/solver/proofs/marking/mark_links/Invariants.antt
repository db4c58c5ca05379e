use Rattle.std.proofs.Common.{◌≡◌, drop, length}
use Rattle.solver.specs.inner.Marks.{AreBelow, with_links}
use Rattle.solver.proofs.marking.mark_links.Given as goal

abbrev pub invariant-links : goal.invariant-links
invariant-links l = record {
  below : AreBelow (length l.marks.items) (drop l.link-index l.links);
  left : with_links (drop l.link-index l.links) l.marks.items ≡ with_links l.links l.fn.marks.items;
}
