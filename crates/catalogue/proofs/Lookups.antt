-- The candidates of a name, and the one of a version, in a loaded index: what a problem is made of has the same.
use Rattle.std.proofs.Common.{◌≡◌, ℕ, Bool, true, false, cond, List, [], ◌∷◌, map, Option, Some, None, option_map}
use Rattle.std.proofs.Common.{unwrap_or, refl, sym, ap, ◌∙◌}
use Rattle.semver.specs.Parse.{Parts}
use Rattle.model.specs.Summary.{same_text}
use Rattle.model.specs.Content.{Candidate, same_version, candidates_of, candidate_at}
use Rattle.model.specs.Candidates.{Record, as_candidate}
use Rattle.catalogue.specs.Stores.{records, CatalogueView, Row, row_at, candidates_at, record_at, rows_by_name, said}

rows_found : (rows : List Row) (name : List ℕ)
    → candidates_of (map (λ row. (row.0, map as_candidate (records row.1))) rows) name
    ≡ map as_candidate (records (unwrap_or (row_at rows name) []))
rows_found [] name = refl
rows_found (row ∷ rows) name = by (same_text name row.0) (rows_found rows name)
  where
    by : (b : Bool) → candidates_of (map (λ row. (row.0, map as_candidate (records row.1))) rows) name
        ≡ map as_candidate (records (unwrap_or (row_at rows name) []))
        → cond b (map as_candidate (records row.1))
        (candidates_of (map (λ row. (row.0, map as_candidate (records row.1))) rows) name)
        ≡ map as_candidate (records (unwrap_or (cond b (Some row.1) (row_at rows name)) []))
    by true rest = refl
    by false rest = rest

version_found : (rs : List Record) (v : Parts)
    → candidate_at (map as_candidate rs) v ≡ option_map as_candidate (record_at rs v)
version_found [] v = refl
version_found (r ∷ rs) v = by (same_version v r.version) (version_found rs v)
  where
    by : (b : Bool) → candidate_at (map as_candidate rs) v ≡ option_map as_candidate (record_at rs v)
        → cond b (Some (as_candidate r)) (candidate_at (map as_candidate rs) v)
        ≡ option_map as_candidate (cond b (Some r) (record_at rs v))
    by true rest = refl
    by false rest = rest

-- the candidates of a name
pub candidates_are : (c : CatalogueView) (name : List ℕ)
    → candidates_of (rows_by_name c) name ≡ map as_candidate (candidates_at c name)
candidates_are c name = rows_found c.rows name

-- the candidate of a version
pub candidate_found : (c : CatalogueView) (name : List ℕ) (v : Parts)
    → candidate_at (candidates_of (rows_by_name c) name) v
    ≡ option_map as_candidate (record_at (candidates_at c name) v)
candidate_found c name v = ap (λ cs. candidate_at cs v) (candidates_are c name) ∙ version_found (candidates_at c name) v

-- the checksum of a version
pub checksum_found : (c : CatalogueView) (name : List ℕ) (v : Parts)
    → option_map (λ s. s.checksum) (option_map said (record_at (candidates_at c name) v))
    ≡ option_map (λ c. c.checksum) (candidate_at (candidates_of (rows_by_name c) name) v)
checksum_found c name v = by (record_at (candidates_at c name) v)
    ∙ sym (ap (option_map (λ (c : Candidate). c.checksum)) (candidate_found c name v))
  where
    by : (o : Option Record) → option_map (λ s. s.checksum) (option_map said o)
        ≡ option_map (λ (c : Candidate). c.checksum) (option_map as_candidate o)
    by None = refl
    by (Some r) = refl
