use Rattle.std.proofs.Common.{◌≡◌, drop}
use Rattle.model.specs.inner.Instances.{first_read, other_read}
use Rattle.lookups.specs.inner.TermViews.{term_views}
use Rattle.lookups.proofs.named_by_terms.first_other.Given as goal

-- the first among the terms that are left is the first of all
abbrev pub invariant-terms : goal.invariant-terms
invariant-terms l = first_read (other_read l.number) (term_views (drop l.term-index l.terms))
    ≡ first_read (other_read l.number) (term_views l.terms)
