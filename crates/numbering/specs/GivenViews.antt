-- What several causes stand for, and what is given for them.
use Rattle.std.specs.Prelude.{List, map}
use Rattle.version_sets.specs.Sets.{Members}
use Rattle.terms.specs.Terms.{terms_view}
use Rattle.terms.specs.declared.term.Term.{Term}
use Rattle.vertices.specs.Texts.{kind_view}
use Rattle.vertices.specs.declared.kind.Kind.{Kind}
use Rattle.model.specs.Causes as causes
use Rattle.numbering.specs.Pairs.{Given}
use Rattle.lookups.specs.inner.CauseViews.{cause_view}
use Rattle.lookups.specs.declared.cause.Cause.{Cause}

abbrev pub cause_views : List Cause → List causes.Cause
cause_views cs = map cause_view cs

-- kinds with incompatibilities, as what is given
abbrev pub given_views : {S : Type 0} → (S → Members) → List (Kind × List (Term S)) → List Given
given_views tests xs = map (λ x. (kind_view x.0, terms_view tests x.1)) xs
