-- The vertices of a problem by number, and the pairs of a vertex and one of its states.
use Rattle.std.specs.Prelude.{◌≡◌, [], ◌∷◌, ℕ, List, Option, None, Some, option_map, option_and_then, slice_get}
use Rattle.model.specs.Content.{Problem}
use Rattle.model.specs.Vertices.{State, Vertex, space}
use Rattle.numbering.specs.Numberings.{IsNumbering, IsWhole, Numbering, with_vertex}
use Rattle.numbering.specs.Pairs.{Given, IsGivenAt, Pair}

-- vertices with more of them, each where it isn't there yet
abbrev pub numbered : Numbering → List Vertex → Numbering
numbered vs [] = vs
numbered vs (w ∷ ws) = numbered (with_vertex vs w) ws

pub record EncodingView : Type 0 where
  pub problem : Problem
  pub vertices : Numbering

-- just the vertices, each once
pub record AreVertices (q : Problem) (vs : Numbering) : Type 0 where
  pub numbering : IsNumbering q vs
  pub whole : IsWhole q vs

abbrev pub beside : Vertex → State → Pair
beside v s = (v, s)

-- the vertex and the state that have these numbers
abbrev pub pair_at : EncodingView → ℕ → ℕ → Option Pair
pair_at e n s = option_and_then (λ v. option_map (beside v) (slice_get (space e.problem v) s)) (slice_get e.vertices n)

-- what is given for a pair, nothing where there is none
abbrev pub IsGivenIf : Problem → Numbering → Option Pair → List Given → Type 0
IsGivenIf q vs None xs = xs ≡ []
IsGivenIf q vs (Some p) xs = IsGivenAt q vs p xs
