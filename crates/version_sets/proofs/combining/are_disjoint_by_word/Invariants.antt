use Rattle.std.proofs.Common.{bit_and}
use Rattle.version_sets.specs.inner.Forms.{IsNothingAt}
use Rattle.version_sets.proofs.combining.are_disjoint_by_word.Given as goal

abbrev pub invariant-places : goal.invariant-places
invariant-places l = IsNothingAt bit_and l.a l.b l.from l.place
