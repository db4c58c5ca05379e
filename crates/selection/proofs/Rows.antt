-- The candidates of a name, as a problem has them.
use Rattle.std.proofs.Common.{◌≡◌, ℕ, true, false, cond, List, [], ◌∷◌, map, Some, unwrap_or, refl, sym, ap}
use Rattle.model.specs.Summary.{same_text}
use Rattle.model.specs.Content.{Candidate, candidates_of}
use Rattle.model.specs.Candidates.{Record, as_candidate}
use Rattle.catalogue.specs.Stores.{Ranked, Row, row_at}

-- the candidates of a name where those of each row are put in an order
pub row_of : (f : List Ranked → List Record) → f [] ≡ [] → (rows : List Row) (name : List ℕ)
    → candidates_of (map (λ row. (row.0, map as_candidate (f row.1))) rows) name
    ≡ map as_candidate (f (unwrap_or (row_at rows name) []))
row_of f none [] name = sym (ap (map as_candidate) none)
row_of f none (row ∷ rows) name =
    elim (same_text name row.0) as (λ b. cond b (map as_candidate (f row.1))
    (candidates_of (map (λ row. (row.0, map as_candidate (f row.1))) rows) name)
    ≡ map as_candidate (f (unwrap_or (cond b (Some row.1) (row_at rows name)) []))) [
      | true ↦ refl
      | false ↦ row_of f none rows name
    ]

pub versions_are : (rs : List Record)
    → map (λ (r : Record). r.version) rs ≡ map (λ (c : Candidate). c.version) (map as_candidate rs)
versions_are [] = refl
versions_are (r ∷ rs) = ap (λ vs. r.version ∷ vs) (versions_are rs)
