use Rattle.std.proofs.Common.{◌≡◌, map, take}
use Rattle.derivations.specs.inner.StepViews.{written_term}
use Rattle.derivations.proofs.line.without_texts.Given as goal

abbrev pub invariant-written : goal.invariant-written
invariant-written l = l.terms.items ≡ map written_term (take l.one-index l.written)
