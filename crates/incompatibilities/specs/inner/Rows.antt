-- An index from vertices to what is listed there, as a row a vertex (an inverted index).
use Rattle.std.specs.Prelude.{◌≡◌, ℕ, ◌<◌, ◌==◌, Bool, false, List, [], ◌∷◌, if◌then◌else◌, length, map, slice_index_or}
use Rattle.std.specs.Prelude.{Vec, vec_len, vec_capacity}
use Rattle.std.specs.List.{list_any}
use Rattle.std.specs.declared.alloc.Global.{Global}
use Rattle.terms.specs.declared.term.Term.{Term}

abbrev pub Rows : Type 0 → Type 0
Rows E = List (Vec E Global)

-- what a vertex's row holds; a vertex past the rows has nothing
abbrev pub row_at : {E : Type 0} → Rows E → ℕ → List E
row_at rows v = slice_index_or (map (λ r. r.items) rows) v []

-- a row has room for one more
abbrev pub HasRoom : {E : Type 0} → Rows E → ℕ → Type 0
HasRoom {E} rows v = (v < length rows)
    × ((d : Vec E Global) → vec_len (slice_index_or rows v d) < vec_capacity (slice_index_or rows v d))

-- a vertex is one of a list, and no vertex stands twice
abbrev pub stands_in : ℕ → List ℕ → Bool
stands_in v vs = list_any (λ w. w == v) vs

abbrev pub IsApart : List ℕ → Type 0
IsApart [] = Unit {0}
IsApart (v ∷ vs) = (stands_in v vs ≡ false) × IsApart vs

-- what a vertex's row gets of terms, where each brings an item
abbrev pub listed_in : {S E : Type 0} → (Term S → E) → ℕ → List (Term S) → List E
listed_in item v [] = []
listed_in item v (t ∷ ts) = if t.vertex == v then item t ∷ listed_in item v ts else listed_in item v ts

-- the same rows, and no less room
pub record IsGrown {E : Type 0} (old new : Rows E) : Type 0 where
  pub same : (v : ℕ) → row_at new v ≡ row_at old v
  pub kept : (v : ℕ) → HasRoom old v → HasRoom new v
