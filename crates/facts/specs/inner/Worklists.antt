-- How a worklist marks what rules give: each fact waits once, and its rules are looked at when it comes.
use Rattle.std.specs.Prelude.{◌≡◌, ◌<◌, ◌+◌, ◌⊎◌, ℕ, Bool, true, false, not, ◌&&◌, cond, List, [], ◌∷◌, ◌++◌, Contains}
use Rattle.std.specs.Prelude.{slice_set, length}
use Rattle.facts.specs.declared.rule.Rule.{Rule}
use Rattle.facts.specs.inner.Chains.{has, IsGiven}

abbrev pub IsBelow : ℕ → Rule → Type 0
IsBelow n r = (r.first < n) × (r.second < n) × (r.gives < n)

abbrev pub unmarked : List Bool → ℕ
unmarked [] = 0
unmarked (true ∷ set) = unmarked set
unmarked (false ∷ set) = 1 + unmarked set

-- both facts of a rule are marked, and what it gives isn't
abbrev pub is_ready : List Bool → Rule → Bool
is_ready set r = has set r.first && has set r.second && not (has set r.gives)

-- one rule was followed
abbrev pub Marks : Rule → List Bool → List ℕ → List Bool → List ℕ → Type 0
Marks r old waiting new more = (new ≡ cond (is_ready old r) (slice_set old r.gives true) old)
    × (more ≡ cond (is_ready old r) (waiting ++ r.gives ∷ []) waiting)

abbrev pub Grows : List Bool → List Bool → Type 0
Grows old new = (i : ℕ) → has old i ≡ true → has new i ≡ true

-- all that is marked is given
abbrev pub IsSound : List Rule → List Bool → List Bool → Type 0
IsSound rules start set = (i : ℕ) → has set i ≡ true → IsGiven rules start i

-- just what is marked waits
pub record Waits (set : List Bool) (waiting : List ℕ) : Type 0 where
  pub all : (i : ℕ) → has set i ≡ true → Contains waiting i
  pub marked : (i : ℕ) → Contains waiting i → has set i ≡ true

-- rules were followed, one after another
pub record Follows (rules : List Rule) (old : List Bool) (waiting : List ℕ) (new : List Bool)
    (more : List ℕ) : Type 0 where
  pub grows : Grows old new
  pub keeps : (i : ℕ) → Contains waiting i → Contains more i
  pub new_wait : (i : ℕ) → has new i ≡ true → (has old i ≡ true) ⊎ Contains more i
  pub marked : (i : ℕ) → Contains more i → Contains waiting i ⊎ (has new i ≡ true)
  pub sound : IsSound rules old new
  pub closed : (r : Rule) → Contains rules r → has old r.first ≡ true → has old r.second ≡ true → has new r.gives ≡ true
  pub count : unmarked new + length more ≡ unmarked old + length waiting

-- how far a worklist has come from a start
pub record Worked (rules : List Rule) (start set : List Bool) (waiting : List ℕ) : Type 0 where
  pub grows : Grows start set
  pub sound : IsSound rules start set
  pub marked : (i : ℕ) → Contains waiting i → has set i ≡ true
  -- a rule whose two facts are marked has its third marked, or one of the two waits
  pub closed : (r : Rule) → Contains rules r → has set r.first ≡ true → has set r.second ≡ true
      → (has set r.gives ≡ true) ⊎ (Contains waiting r.first ⊎ Contains waiting r.second)
