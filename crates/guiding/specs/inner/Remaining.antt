-- What a search hasn't come to: the states of vertices without a number, and the pairs that weren't asked for.
use Rattle.std.specs.Prelude.{ℕ, zero, suc, ◌+◌, Bool, List, [], ◌∷◌, length, map, if◌then◌else◌}
use Rattle.std.specs.List.{list_any}
use Rattle.model.specs.Content.{Problem}
use Rattle.model.specs.Vertices.{Vertex, same_vertex, space}
use Rattle.guiding.specs.inner.Everything.{vertices}

-- how many states each vertex has
abbrev pub spaces_of : Problem → List Vertex → List ℕ
spaces_of q vs = map (λ v. length (space q v)) vs

-- the states of those of some vertices that aren't among the numbered ones
abbrev pub late_in : Problem → List Vertex → List Vertex → ℕ
late_in q vs [] = 0
late_in q vs (v ∷ all) = (if list_any (same_vertex v) vs then 0 else length (space q v)) + late_in q vs all

abbrev pub late_of : Problem → List Vertex → ℕ
late_of q vs = late_in q vs (vertices q)

-- how many of the first numbers fail a test
abbrev pub open_below : ℕ → (ℕ → Bool) → ℕ
open_below zero asked = 0
open_below (suc n) asked = open_below n asked + (if asked n then 0 else 1)

-- the pairs of some vertices that weren't asked for
abbrev pub open_in : Problem → (Vertex → ℕ → Bool) → List Vertex → ℕ
open_in q asked [] = 0
open_in q asked (v ∷ all) = open_below (length (space q v)) (asked v) + open_in q asked all

abbrev pub open_of : Problem → (Vertex → ℕ → Bool) → ℕ
open_of q asked = open_in q asked (vertices q)
