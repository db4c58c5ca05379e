-- The candidates by rank, in the model's order of preference.
use Rattle.std.proofs.Common.{◌≡◌, ℕ, Bool, true, false, cond, List, [], ◌∷◌, ◌++◌, map, reverse}
use Rattle.std.proofs.Common.{Option, Some, unwrap_or, refl, sym, ap, ap₂, subst}
use Rattle.semver.specs.Parse.{Parts}
use Rattle.model.specs.Summary.{Dependency, same_text}
use Rattle.model.specs.Content.{Candidate, Content}
use Rattle.model.specs.Candidates.{RustVersion, Record, as_candidate, by_preference, is_locked}
use Rattle.model.proofs.Lists.{all_none, all_cons}
use Rattle.model.proofs.Same.{text-same}
use Rattle.catalogue.specs.Loads.{ranked_in, store_of, with_ranks}
use Rattle.catalogue.specs.Stores.{AreRanked, Ranked, rank_of, records, Row, row_at}
use Rattle.catalogue.specs.Runs.{Asked, candidates_in}
use Rattle.catalogue.proofs.Preferences.{fitting_next, locked_first, others_last}
use Rattle.selection.specs.Preferred.{preferred_by}
use Rattle.catalogue.specs.Problems.{by_rank, preferred_in}

-- ---- the candidates of a name

module _ (locked : Parts → Bool) (rust : Option RustVersion) where
  rank_prefers : (cs : List Ranked) → AreRanked locked rust cs → by_rank cs ≡ by_preference locked rust (records cs)
  rank_prefers cs h = ap₂ (λ a b. a ++ b) (ap reverse (locked_first locked rust cs h))
      (ap₂ (λ a b. a ++ b) (ap reverse (fitting_next locked rust cs h)) (ap reverse (others_last locked rust cs h)))

  abbrev HasItsRank : Ranked → Type 0
  HasItsRank c = c.1 ≡ rank_of locked rust c.0

  have_ranks : (rs : List Record) → AreRanked locked rust (with_ranks locked rust rs)
  have_ranks [] = all_none HasItsRank
  have_ranks (r ∷ rs) = all_cons HasItsRank (r, rank_of locked rust r) (with_ranks locked rust rs) refl (have_ranks rs)

-- ---- the names that a run asked for

module _ (old : Content) (source : List ℕ) (rust : Option RustVersion) where
  abbrev row_in : Asked → Row
  row_in a = (a.0, ranked_in old source rust a)

  pub rows_ranked : (asked : List Asked) (name : List ℕ)
      → AreRanked (is_locked old source name) rust (unwrap_or (row_at (map row_in asked) name) [])
  rows_ranked [] name = all_none (HasItsRank (is_locked old source name) rust)
  rows_ranked (a ∷ asked) name = by (same_text name a.0) refl (rows_ranked asked name)
    where
      by : (b : Bool) → same_text name a.0 ≡ b
          → AreRanked (is_locked old source name) rust (unwrap_or (row_at (map row_in asked) name) [])
          → AreRanked (is_locked old source name) rust
          (unwrap_or (cond b (Some (ranked_in old source rust a)) (row_at (map row_in asked) name)) [])
      by true e rest = subst (λ n. AreRanked (is_locked old source n) rust (ranked_in old source rust a))
          (sym (text-same name a.0 e)) (have_ranks (is_locked old source a.0) rust (candidates_in old source a))
      by false e rest = rest

  pub rows_prefer : (root : List Dependency) (asked : List Asked)
      → preferred_in (store_of old source rust root asked) ≡ preferred_by old rust (store_of old source rust root asked)
  rows_prefer root [] = refl
  rows_prefer root (a ∷ asked) = ap₂ (λ cs (rows : List (List ℕ × List Candidate)). (a.0, map as_candidate cs) ∷ rows)
      (rank_prefers (is_locked old source a.0) rust (ranked_in old source rust a)
      (have_ranks (is_locked old source a.0) rust (candidates_in old source a))) (rows_prefer root asked)
