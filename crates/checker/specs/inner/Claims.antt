-- What is claimed of the terms of a combination (the rule of resolution of Dart pub's `solver.md`).
use Rattle.std.specs.Prelude.{◌<◌, List, length, Bool}
use Rattle.model.specs.Content.{Problem}
use Rattle.model.specs.Vertices.{Vertex}
use Rattle.model.specs.Axioms.{Term}
use Rattle.model.specs.inner.Terms.{is_combination}
use Rattle.axioms.specs.inner.GatheredViews.{problem_of}
use Rattle.derivations.specs.inner.Tables.{TablesView, terms_at, vertex_at}
use Rattle.checker.specs.inner.Combinations.{fits, fits_or_said}
use Rattle.checker.specs.inner.Ready.{AreReady, tables_of}
use Rattle.checker.specs.declared.combination.Claim.{Claim}

abbrev pub claim_tables : Claim → TablesView
claim_tables c = tables_of c.names.now

-- its numbers stand for what is at hand
pub record IsSound (c : Claim) : Type 0 where
  pub vertex : c.vertex < length (claim_tables c).vertices
  pub first : AreReady c.names.now c.first.now
  pub second : AreReady c.names.now c.second.now
  pub terms : AreReady c.names.now c.terms.now

abbrev pub claim_problem : Claim → Problem
claim_problem c = problem_of c.gathered.now

abbrev pub claim_terms : Claim → List Term
claim_terms c = terms_at (claim_tables c) c.terms.now

abbrev pub claim_first : Claim → List Term
claim_first c = terms_at (claim_tables c) c.first.now

abbrev pub claim_second : Claim → List Term
claim_second c = terms_at (claim_tables c) c.second.now

abbrev pub claim_vertex : Claim → Vertex
claim_vertex c = vertex_at (claim_tables c) c.vertex

abbrev pub fits_claim : Claim → Term → Bool
fits_claim c = fits (claim_problem c) (claim_vertex c) (claim_first c) (claim_second c) (claim_terms c)

abbrev pub fits_or_said_claim : Claim → Term → Bool
fits_or_said_claim c = fits_or_said (claim_problem c) (claim_vertex c) (claim_first c) (claim_second c) (claim_terms c)

-- the terms are the combination of the two lists
abbrev pub is_right : Claim → Bool
is_right c = is_combination (claim_problem c) (claim_vertex c) (claim_first c) (claim_second c) (claim_terms c)
