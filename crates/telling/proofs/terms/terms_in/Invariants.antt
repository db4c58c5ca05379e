use Rattle.std.proofs.Common.{◌≡◌, take}
use Rattle.lookups.specs.inner.TermViews.{term_views}
use Rattle.derivations.specs.inner.Tables.{terms_at}
use Rattle.telling.proofs.terms.terms_in.Given as goal

abbrev pub invariant-terms : goal.invariant-terms
invariant-terms l = term_views l.found.items ≡ terms_at l.tables (take l.term-index l.terms)
