-- When the preferred walk is the answer, and the order of preference by an old lock and a Rust version (Cargo book,
-- "Dependency Resolution"; "Rust version"). The walk itself is the model's.
use Rattle.std.specs.Prelude.{ℕ, List, map, Option, Some, None}
use Rattle.model.specs.Content.{Candidate, Content, Problem}
use Rattle.model.specs.Candidates.{RustVersion, as_candidate, by_preference, is_locked}
use Rattle.model.specs.Selected.{IsPreferred}
use Rattle.catalogue.specs.Stores.{records, CatalogueView}

-- The same in the model's order of preference, for an old lock and a Rust version to go by. For those that a run loaded
-- its index with, both are one: a law in `src/laws.rt`.
abbrev pub preferred_by : Content → Option RustVersion → CatalogueView → List (List ℕ × List Candidate)
preferred_by old rust index = map (λ row.
    (row.0, map as_candidate (by_preference (is_locked old index.source row.0) rust (records row.1)))) index.rows

module _ (q : Problem) (preferred : List (List ℕ × List Candidate)) where
  -- there is an answer exactly where the walk is complete and valid
  abbrev pub Answers : Option Content → Type 0
  Answers (Some content) = IsPreferred q preferred content
  Answers None = (content : Content) → IsPreferred q preferred content → ⊥
