-- What an assignment over numbers says of the vertices: one without a number is absent.
use Rattle.std.specs.Prelude.{◌≡◌, ◌<◌, ℕ, List, true, Contains, Option, Some, None, slice_get, length, unwrap_or}
use Rattle.incompatibilities.specs.Incompatibilities.{Assignment, Breaks}
use Rattle.incompatibilities.specs.Stores.{EntryView, entry, terms_of}
use Rattle.model.specs.Content.{Problem, Content}
use Rattle.model.specs.Vertices.{Vertex, State, absent, space}
use Rattle.model.specs.inner.Assignment.{Assigns}
use Rattle.model.specs.Causes.{Cause, is_cause, terms_of_cause}
use Rattle.numbering.specs.Numberings.{Numbering, number_in, Says}
use Rattle.numbering.specs.Pairs.{Pair, pairs_of}

-- the state of a vertex that has this number
abbrev pub state_at : Problem → Vertex → ℕ → State
state_at q v s = unwrap_or (slice_get (space q v) s) absent

abbrev pub state_if : Problem → Assignment → Vertex → Option ℕ → State
state_if q x v None = absent
state_if q x v (Some n) = state_at q v (x n)

-- the state of each vertex
abbrev pub state_of : Problem → Numbering → Assignment → Vertex → State
state_of q vs x v = state_if q x v (number_in vs v)

-- each vertex has one of its states
abbrev pub IsWithin : Problem → Numbering → Assignment → Type 0
IsWithin q vs x = (n : ℕ) (v : Vertex) → slice_get vs n ≡ Some v → x n < length (space q v)

-- no entry of the store is broken
abbrev pub BreaksNone : Assignment → List EntryView → Type 0
BreaksNone x es = (id : ℕ) → id < length es → Breaks x (terms_of es id) → ⊥

-- the instance of a cause is an entry of the store
abbrev pub IsAdded : Problem → Numbering → List EntryView → Cause → Type 0
IsAdded q vs es c = (id : ℕ) × (id < length es) × Says q vs (entry es id).terms (terms_of_cause q c)

-- an assignment to which a solver may hold: it breaks no entry, and each instance was added whose pairs hold in it
pub record IsSettled (q : Problem) (vs : Numbering) (es : List EntryView) (x : Assignment) : Type 0 where
  pub within : IsWithin q vs x
  pub none_broken : BreaksNone x es
  pub added : (c : Cause) → is_cause q c ≡ true
      → ((p : Pair) → Contains (pairs_of c) p → state_of q vs x p.0 ≡ p.1) → IsAdded q vs es c

-- the assignment gives each numbered vertex the state that it has in a content
abbrev pub IsOf : Problem → Numbering → Content → Assignment → Type 0
IsOf q vs content x = (n : ℕ) (v : Vertex) → slice_get vs n ≡ Some v
    → (x n < length (space q v)) × Assigns q content v (state_at q v (x n))
