-- The candidates of a name, and of several names, as a loaded index holds them.
use Rattle.std.specs.Prelude.{ℕ, List, map}
use Rattle.std.specs.List.{zip}
use Rattle.catalogue.specs.declared.candidates.Candidates.{Candidates}
use Rattle.catalogue.specs.Stores.{Ranked, Row, ranked_view}

abbrev pub candidates_view : Candidates → List Ranked
candidates_view cs = ranked_view cs.versions.items cs.candidates.items

abbrev pub row_of : List ℕ × Candidates → Row
row_of p = (p.0, candidates_view p.1)

-- names, and at the same places their candidates
abbrev pub rows_view : List (List ℕ) → List Candidates → List Row
rows_view names cs = map row_of (zip names cs)
