use Rattle.std.proofs.Common.{◌≡◌, take}
use Rattle.derivations.specs.inner.Named.{named_views}
use Rattle.solver.specs.Refusing.{spoken_views}
use Rattle.solver.proofs.speaking.named_terms.Given as goal

abbrev pub invariant-terms : goal.invariant-terms
invariant-terms l = named_views l.refs.items ≡ spoken_views (take l.term-index l.terms)
