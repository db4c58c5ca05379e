-- The number of places after which a term came to be satisfied, and the two greatest of such numbers (Dart pub's
-- `solver.md`, "Conflict Resolution": the satisfier and the previous satisfier's level).
use Rattle.std.specs.Prelude.{◌≡◌, ◌≢◌, ℕ, zero, suc, nat_lt, ◌<◌, ◌≤◌, List, length, Some, if◌then◌else◌}
use Rattle.version_sets.specs.Sets.{Members}
use Rattle.terms.specs.Terms.{TermView}
use Rattle.propagation.specs.Trails.{TrailView, set_of, sets_at, step_at}
use Rattle.incompatibilities.specs.Incompatibilities.{HoldsAt}
use Rattle.propagation.specs.inner.Units.{term_at}
use Rattle.propagation.specs.declared.satisfying.Ranks.{Ranks}

-- a term is satisfied after n places and any more, and after no fewer; the last of the n is on its vertex
pub record IsCount (t : TrailView) (v : ℕ) (x : Members) (n : ℕ) : Type 0 where
  pub within : n ≤ length t.steps
  pub holds : (k : ℕ) → n ≤ k → k ≤ length t.steps → HoldsAt (set_of (sets_at t k) v) (Some x)
  pub first : (k : ℕ) → k < n → ¬ HoldsAt (set_of (sets_at t k) v) (Some x)
  pub on : (p : ℕ) → n ≡ suc p → (step_at t.steps p).vertex ≡ v

-- the two greatest numbers with one more
abbrev pub ranked : Ranks → ℕ → Ranks
ranked r n = if nat_lt r.all n then record { all = n; others = r.all } else if nat_lt r.others n then
    record { all = r.all; others = n } else r

-- a term of a list is satisfied after k places
abbrev pub HoldsAfter : TrailView → List TermView → ℕ → ℕ → Type 0
HoldsAfter t ts i k = HoldsAt (set_of (sets_at t k) (term_at ts i).vertex) (Some (term_at ts i).states)

-- of the first n terms, at least one: the last to be satisfied, and when all the others were
pub record AreRanked (t : TrailView) (ts : List TermView) (n : ℕ) (r : Ranks) : Type 0 where
  pub last : ℕ
  pub within : last < n
  pub count : IsCount t (term_at ts last).vertex (term_at ts last).states r.all
  pub some : 0 < r.all
  pub less : r.others < r.all
  pub others_hold : (k : ℕ) → r.others ≤ k → k ≤ length t.steps → (i : ℕ) → i < n → i ≢ last → HoldsAfter t ts i k
  pub others_first : (k : ℕ) → k < r.others → ¬ ((i : ℕ) → i < n → i ≢ last → HoldsAfter t ts i k)

abbrev pub Ranked : TrailView → List TermView → ℕ → Ranks → Type 0
Ranked t ts zero r = (r.all ≡ 0) × (r.others ≡ 0)
Ranked t ts (suc n) r = AreRanked t ts (suc n) r
