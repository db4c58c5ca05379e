-- At most one term of an instance has absent among its states. So where each vertex that may be absent is taken to be
-- so, and each other one has one state left, no instance is broken at which propagation has nothing to do.
use Rattle.std.specs.Prelude.{◌≡◌, ◌⊎◌, ⊤, ℕ, List, [], ◌∷◌, Bool, true, false, Option, Some, None}
use Rattle.std.specs.List.{AllByRecursion}
use Rattle.version_sets.specs.Sets.{Members, has}
use Rattle.incompatibilities.specs.Incompatibilities.{Terms}
use Rattle.model.specs.Vertices.{absent, has_state}
use Rattle.model.specs.Axioms.{Term}

abbrev pub has_absent : Term → Bool
has_absent t = has_state t.states absent

abbrev pub OneAbsent : List Term → Type 0
OneAbsent [] = ⊤
OneAbsent (t ∷ ts) = ((has_absent t ≡ false) × OneAbsent ts) ⊎ AllByRecursion (λ u. has_absent u ≡ false) ts

-- the same over numbers, where absent is 0
abbrev pub HasZero : Option Members → Type 0
HasZero None = ⊥
HasZero (Some s) = has s 0 ≡ true

abbrev pub OneZero : Terms → Type 0
OneZero f = (u w : ℕ) → HasZero (f u) → HasZero (f w) → u ≡ w
