use Rattle.std.proofs.Common.{◌≡◌, drop}
use Rattle.model.specs.Derivation.{states_at}
use Rattle.lookups.specs.inner.TermViews.{term_views}
use Rattle.vertices.specs.inner.RefViews.{vertex_ref_view}
use Rattle.lookups.proofs.compare.states_at.Given as goal

-- what the terms that are left say of the vertex is what all do
abbrev pub invariant-terms : goal.invariant-terms
invariant-terms l = states_at (term_views (drop l.term-index l.terms)) (vertex_ref_view l.vertex)
    ≡ states_at (term_views l.terms) (vertex_ref_view l.vertex)
