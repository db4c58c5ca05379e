-- The assignment that is taken at the end of a search: absent where that is left, else the one state that is left. The
-- words of propagation (a term holds, is the one open one) are repeated over any sets, since this crate stands below
-- it.
use Rattle.std.specs.Prelude.{◌≡◌, ◌≢◌, ℕ, true, false, Some}
use Rattle.version_sets.specs.Sets.{Members, has, inside, meets}
use Rattle.incompatibilities.specs.Incompatibilities.{HoldsAt, Terms}

-- absent, or the one state that is left
pub record IsFinal (set : Members) (i : ℕ) : Type 0 where
  pub left : has set i ≡ true
  pub alone : i ≢ 0 → (j : ℕ) → has set j ≡ true → j ≡ i

pub record IsOpen (sets : ℕ → Members) (f : Terms) (v : ℕ) (x : Members) : Type 0 where
  pub term : f v ≡ Some x
  pub common : meets (sets v) x ≡ true
  pub apart : inside (sets v) x ≡ false
  pub others : (u : ℕ) → u ≢ v → HoldsAt (sets u) (f u)

-- propagation has nothing to do
pub record IsAtRest (sets : ℕ → Members) (f : Terms) : Type 0 where
  pub not_all : ¬ ((u : ℕ) → HoldsAt (sets u) (f u))
  pub not_one : (v : ℕ) (x : Members) → ¬ IsOpen sets f v x
