-- All vertices of a problem as one list, each once, for proofs alone: the search ends since it meets none but these.
-- That of `Everything` in encoding is one that code makes.
use Rattle.std.specs.Prelude.{List, [], ◌∷◌, ◌++◌, map, ℕ}
use Rattle.std.specs.List.{flat_map}
use Rattle.model.specs.Content.{Candidate, Problem, candidates_of}
use Rattle.model.specs.Vertices.{Owner, Vertex, root, pkg, dep, feat, ask, classes_of, same_vertex}
use Rattle.model.specs.Causes.{Cause, of_feature, of_asking, owners}
use Rattle.model.specs.inner.Listed.{causes, numbers_of, once}

-- the vertex of a feature or of an ask, which have an instance each
abbrev pub spoken_by : Cause → List Vertex
spoken_by (of_feature name k f) = feat name k f ∷ []
spoken_by (of_asking name v f g i) = ask name v i g ∷ []
spoken_by _ = []

module _ (q : Problem) where
  abbrev pub dependency_vertices : Owner → List Vertex
  dependency_vertices o = map (dep o) (numbers_of q o)

  abbrev pub package_vertices : List ℕ × List Candidate → List Vertex
  package_vertices row = map (pkg row.0) (classes_of (candidates_of q.candidates row.0))

  abbrev pub named : List Vertex
  named = root ∷ (flat_map dependency_vertices (owners q)
      ++ (flat_map package_vertices q.candidates ++ flat_map spoken_by (causes q)))

  abbrev pub vertices : List Vertex
  vertices = once same_vertex named
