use Rattle.std.proofs.Common.{suc, ◌-◌, ◌≤◌, length, map, string_bytes}
use Rattle.checker.specs.inner.Names.{AreTexts}
use Rattle.checker.proofs.naming.add_texts.Given as goal

abbrev pub invariant-vertices : goal.invariant-vertices
invariant-vertices l = record {
  texts : AreTexts l.tables (map string_bytes l.texts.items);
  more : length l.fn.texts.items ≤ length l.texts.items;
}

abbrev pub decreases-vertices : goal.decreases-vertices
decreases-vertices l = suc l.vertex - length l.texts.items
