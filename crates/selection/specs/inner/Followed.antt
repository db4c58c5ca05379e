-- A round of the walk follows some dependencies of those met so far, and lets the others lead nowhere (own). Where each
-- one is followed that is enabled, the others make no difference: a law in `src/laws.rt`.
use Rattle.std.specs.Prelude.{◌≡◌, ℕ, List, Bool, true, not, ◌||◌, Some, nat_eq, slice_get}
use Rattle.model.specs.Summary.{Dependency}
use Rattle.model.specs.Selection.{enabled, Brings}
use Rattle.model.specs.Content.{Candidate, Problem}
use Rattle.model.specs.Vertices.{Owner, owner_brings}
use Rattle.model.specs.Walk.{IsReachedFact, Picks}
use Rattle.facts.specs.inner.Graphs.{flag_in}

-- whether a dependency is followed: all of its package are, the package needs it, or it was asked for
abbrev pub is_followed : Bool → Bool → Dependency → Bool
is_followed all asked d = all || (not d.optional || asked)

-- all: whether all dependencies are followed; asked: by place and number, those that were asked for
module _ (all : Bool) (asked : List (List Bool)) (owners : List Owner) where
  -- dependency number i of the owner is followed; the root needs all of its own
  abbrev pub IsFollowed : Owner → ℕ → Dependency → Type 0
  IsFollowed o i d =
      (n : ℕ) × (slice_get owners n ≡ Some o) × (is_followed (all || nat_eq n 0) (flag_in asked n i) d ≡ true)

  module _ (q : Problem) (preferred : List (List ℕ × List Candidate)) where
    -- a dependency that is followed leads to its pick, and each other one nowhere
    abbrev pub PicksFollowed : Owner → ℕ → Dependency → Owner → Type 0
    PicksFollowed o i d t = IsFollowed o i d × Picks q preferred o i d t

    -- each dependency is followed that is enabled, as far as those lead
    abbrev pub AreFollowed : Type 0
    AreFollowed = (o : Owner) (i : ℕ) (d : Dependency) → IsReachedFact q PicksFollowed (enabled o i)
        → Brings (owner_brings q) o i d → IsFollowed o i d
