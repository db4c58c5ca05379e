use Rattle.std.proofs.Common.{◌≡◌, take}
use Rattle.lookups.specs.inner.TermViews.{term_views}
use Rattle.derivations.specs.inner.Tables.{terms_at}
use Rattle.checker.specs.inner.Ready.{tables_of}
use Rattle.checker.proofs.preparing.terms_in.Given as goal

abbrev pub invariant-terms : goal.invariant-terms
invariant-terms l = term_views l.looked_up.items ≡ terms_at (tables_of l.names) (take l.term-index l.terms)
