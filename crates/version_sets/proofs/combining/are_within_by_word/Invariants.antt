use Rattle.version_sets.specs.inner.Forms.{IsNothingAt}
use Rattle.version_sets.specs.inner.Words.{and_not}
use Rattle.version_sets.proofs.combining.are_within_by_word.Given as goal

abbrev pub invariant-places : goal.invariant-places
invariant-places l = IsNothingAt and_not l.a l.b l.from l.place
