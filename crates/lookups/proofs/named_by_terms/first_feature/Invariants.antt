use Rattle.std.proofs.Common.{◌≡◌, drop}
use Rattle.model.specs.inner.Instances.{first_read, feature_read}
use Rattle.lookups.specs.inner.TermViews.{term_views}
use Rattle.lookups.proofs.named_by_terms.first_feature.Given as goal

-- the first among the terms that are left is the first of all
abbrev pub invariant-terms : goal.invariant-terms
invariant-terms l =
    first_read feature_read (term_views (drop l.term-index l.terms)) ≡ first_read feature_read (term_views l.terms)
