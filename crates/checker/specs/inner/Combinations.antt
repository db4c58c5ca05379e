-- When the terms of a step say at a vertex what the combination of two others says there (the rule of resolution of
-- Dart pub's `solver.md`).
use Rattle.std.specs.Prelude.{List, Bool, ◌&&◌, ◌||◌}
use Rattle.std.specs.List.{list_all}
use Rattle.model.specs.Content.{Problem}
use Rattle.model.specs.Vertices.{Vertex}
use Rattle.model.specs.Axioms.{Term}
use Rattle.model.specs.Derivation.{states_at, combined_at}
use Rattle.model.specs.inner.Terms.{same_at, speaks_of}

module _ (q : Problem) (v : Vertex) (a b ts : List Term) where
  abbrev pub fits : Term → Bool
  fits t = same_at (states_at ts t.vertex) (combined_at q a b v t.vertex)

  -- or they say something there, which is looked at with their own terms
  abbrev pub fits_or_said : Term → Bool
  fits_or_said t = speaks_of ts t.vertex || fits t

  -- and so at each vertex that one of the three speaks of
  abbrev pub all_fit : Bool
  all_fit = list_all fits ts && (list_all fits_or_said a && list_all fits_or_said b)
