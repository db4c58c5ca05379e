-- Which vertices have numbers, and what an incompatibility over numbers says of them.
use Rattle.std.specs.Prelude.{◌≡◌, ◌≢◌, ◌⊎◌, ℕ, suc, List, [], ◌∷◌, ◌++◌, if◌then◌else◌, Option, Some, None, option_map}
use Rattle.std.specs.Prelude.{slice_get, map, Contains}
use Rattle.std.specs.List.{AllPairs, AllByRecursion, list_any}
use Rattle.version_sets.specs.Sets.{Members}
use Rattle.terms.specs.Terms.{TermView}
use Rattle.incompatibilities.specs.Incompatibilities as numbered
use Rattle.incompatibilities.specs.Incompatibilities.{IsIncompatibility, unless_full}
use Rattle.model.specs.Content.{Problem}
use Rattle.model.specs.Vertices.{Vertex, State, has_state, same_vertex, space}
use Rattle.model.specs.Axioms.{Term, IsVertex}
use Rattle.model.specs.Derivation as model

-- vertices, each at the place of its number
abbrev pub Numbering : Type 0
Numbering = List Vertex

-- each is there, and has one number
pub record IsNumbering (q : Problem) (vs : Numbering) : Type 0 where
  pub once : AllPairs (λ v w. v ≢ w) vs
  pub there : AllByRecursion (λ v. IsVertex q v) vs

-- every vertex has one
abbrev pub IsWhole : Problem → Numbering → Type 0
IsWhole q vs = (v : Vertex) → IsVertex q v → Contains vs v

-- the number of a vertex
abbrev pub number_in : Numbering → Vertex → Option ℕ
number_in [] v = None
number_in (w ∷ ws) v = if same_vertex v w then Some 0 else option_map suc (number_in ws v)

-- states of a vertex as a set of numbers: which of its space they are, absent being 0
abbrev pub members_at : Problem → Vertex → List State → Members
members_at q v ss = map (has_state ss) (space q v)

-- An incompatibility over numbers says what terms over vertices say. Full terms are dropped, and each vertex of the
-- terms has a number.
pub record Says (q : Problem) (vs : Numbering) (made : List TermView) (ts : List Term) : Type 0 where
  pub is : IsIncompatibility made
  pub each : (n : ℕ) (v : Vertex) → slice_get vs n ≡ Some v
      → numbered.states_at made n ≡ unless_full (option_map (members_at q v) (model.states_at ts v))
  pub none : (n : ℕ) → slice_get vs n ≡ None → numbered.states_at made n ≡ None
  pub numbers : AllByRecursion (λ t. Contains vs t.vertex) ts

-- the vertices with one more at the end, unless it is there
abbrev pub with_vertex : Numbering → Vertex → Numbering
with_vertex vs v = if list_any (same_vertex v) vs then vs else vs ++ v ∷ []

-- more vertices at the end
abbrev pub IsGrown : Numbering → Numbering → Type 0
IsGrown old new = (more : List Vertex) × (new ≡ old ++ more)

-- each vertex that came is such a one
abbrev pub AddsOnly : (Vertex → Type 0) → Numbering → Numbering → Type 0
AddsOnly Is old new = (v : Vertex) → Contains new v → Contains old v ⊎ Is v
