-- How sets stand to an incompatibility, vertex by vertex (Dart pub's `solver.md`, "Incompatibility" and "Unit
-- Propagation").
use Rattle.std.specs.Prelude.{◌≡◌, ◌≢◌, ℕ, ◌<◌, Bool, true, false, List, length, Option, Some, None}
use Rattle.version_sets.specs.Sets.{Members, has, inside, meet, meets, rest}
use Rattle.incompatibilities.specs.Incompatibilities.{Assignment, Breaks, HoldsAt, Terms}
use Rattle.incompatibilities.specs.Stores.{EntryView, terms_of}
use Rattle.propagation.specs.Trails.{set_of}

-- whether a term stands at a vertex, and every state that is left there makes it hold
abbrev pub is_within : Members → Option Members → Bool
is_within set None = false
is_within set (Some x) = inside set x

abbrev pub OthersHold : List Members → Terms → ℕ → Type 0
OthersHold sets f v = (u : ℕ) → u ≢ v → HoldsAt (set_of sets u) (f u)

-- an incompatibility is satisfied where all its terms are
abbrev pub Sat : List Members → Terms → Type 0
Sat sets f = (u : ℕ) → HoldsAt (set_of sets u) (f u)

-- the term at a vertex is open: some states that are left make it hold, and some don't; the other terms are satisfied
pub record IsOneOpen (sets : List Members) (f : Terms) (v : ℕ) (x : Members) : Type 0 where
  pub term : f v ≡ Some x
  pub common : meets (set_of sets v) x ≡ true
  pub apart : inside (set_of sets v) x ≡ false
  pub others : OthersHold sets f v

-- neither satisfied nor with one open term
pub record IsQuiet (sets : List Members) (f : Terms) : Type 0 where
  pub not_all : ¬ Sat sets f
  pub not_one : (v : ℕ) (x : Members) → ¬ IsOneOpen sets f v x

-- two terms don't hold, so it is quiet, now or with more states
pub record IsStill (sets : List Members) (f : Terms) : Type 0 where
  pub first : ℕ
  pub second : ℕ
  pub two : first ≢ second
  pub not_first : ¬ HoldsAt (set_of sets first) (f first)
  pub not_second : ¬ HoldsAt (set_of sets second) (f second)

-- a term has no state that is left, so it neither holds nor is open, now or with fewer states
pub record RuledOut (sets : List Members) (f : Terms) : Type 0 where
  pub vertex : ℕ
  pub states : Members
  pub term : f vertex ≡ Some states
  pub apart : meets (set_of sets vertex) states ≡ false

-- an assignment is the negation of the one open term of an incompatibility whose other terms are satisfied
pub record IsForced (sets after : List Members) (v : ℕ) (f : Terms) (x : Members) : Type 0 where
  pub one : IsOneOpen sets f v x
  pub here : set_of after v ≡ meet (set_of sets v) (rest x)
  pub there : (u : ℕ) → u ≢ v → set_of after u ≡ set_of sets u
  pub fits : length x ≡ length (set_of sets v)

-- an assignment of all vertices agrees with sets where each vertex has one of its states
abbrev pub Agrees : Assignment → List Members → Type 0
Agrees x sets = (u : ℕ) → u < length sets → has (set_of sets u) (x u) ≡ true

-- it breaks no entry of a store
abbrev pub BreaksNone : Assignment → List EntryView → Type 0
BreaksNone x es = (id : ℕ) → id < length es → ¬ Breaks x (terms_of es id)
