-- Incompatibilities, their combination at a vertex, and what an assignment breaks (Dart pub's `solver.md`,
-- "Incompatibility" and "Conflict Resolution", over sets of states).
use Rattle.std.specs.Prelude.{◌≡◌, ℕ, ◌+◌, ◌<◌, ◌≤◌, ◌==◌, ◌⊎◌, true, false, List, [], ◌∷◌, length, Option, Some, None}
use Rattle.std.specs.Prelude.{if◌then◌else◌}
use Rattle.version_sets.specs.Sets.{Members, has, inside, is_full, join, meet, size}
use Rattle.terms.specs.Terms.{TermView}

-- for each vertex the states of its term; a vertex with none counts as one with all its states
abbrev pub Terms : Type 0
Terms = ℕ → Option Members

abbrev pub states_at : List TermView → Terms
states_at [] v = None
states_at (t ∷ ts) v = if t.vertex == v then Some t.states else states_at ts v

-- every vertex is past another
abbrev pub AllPast : ℕ → List TermView → Type 0
AllPast v [] = Unit {0}
AllPast v (t ∷ ts) = (v < t.vertex) × AllPast v ts

-- the vertices rise, so each has at most one term
abbrev pub IsRising : List TermView → Type 0
IsRising [] = Unit {0}
IsRising (t ∷ ts) = AllPast t.vertex ts × IsRising ts

-- no term has all states of its vertex
abbrev pub NoneFull : List TermView → Type 0
NoneFull [] = Unit {0}
NoneFull (t ∷ ts) = (is_full t.states ≡ false) × NoneFull ts

-- an incompatibility: one term a vertex, in rising order, none full
pub record IsIncompatibility (ts : List TermView) : Type 0 where
  pub rising : IsRising ts
  pub none_full : NoneFull ts

-- how many terms stand at a vertex
abbrev pub terms_on : ℕ → List TermView → ℕ
terms_on v [] = 0
terms_on v (t ∷ ts) = (if t.vertex == v then 1 else 0) + terms_on v ts

-- at most one term a vertex, in any order
abbrev pub OneEach : List TermView → Type 0
OneEach ts = (v : ℕ) → terms_on v ts ≤ 1

-- full terms say nothing, and are dropped
abbrev pub unless_full : Option Members → Option Members
unless_full None = None
unless_full (Some s) = if is_full s then None else Some s

-- the incompatibility of these terms
pub record IsMadeOf (given made : List TermView) : Type 0 where
  pub is : IsIncompatibility made
  pub each : (u : ℕ) → states_at made u ≡ unless_full (states_at given u)

-- at the vertex the union: full if one has no term there
abbrev pub union_at : Option Members → Option Members → Option Members
union_at None y = None
union_at (Some x) None = None
union_at (Some x) (Some y) = Some (join x y)

-- elsewhere the intersection
abbrev pub meet_at : Option Members → Option Members → Option Members
meet_at None y = y
meet_at (Some x) None = Some x
meet_at (Some x) (Some y) = Some (meet x y)

-- the union at a vertex, the intersection elsewhere
abbrev pub combined_at : ℕ → Terms → Terms → Terms
combined_at v f g u = if u == v then union_at (f u) (g u) else meet_at (f u) (g u)

-- the combination of two at a vertex
pub record IsCombination (v : ℕ) (a b c : List TermView) : Type 0 where
  pub is : IsIncompatibility c
  pub each : (u : ℕ) → states_at c u ≡ unless_full (combined_at v (states_at a) (states_at b) u)

-- where both have a term, it is of one universe
abbrev pub Fit : Terms → Terms → Type 0
Fit f g = (u : ℕ) (x y : Members) → f u ≡ Some x → g u ≡ Some y → length x ≡ length y

-- an assignment gives each vertex one of its states
abbrev pub Assignment : Type 0
Assignment = ℕ → ℕ

abbrev pub IsWithin : Assignment → Terms → Type 0
IsWithin x f = (u : ℕ) (s : Members) → f u ≡ Some s → x u < length s

-- a term holds where its vertex has one of its states
abbrev pub HoldsOf : Option Members → ℕ → Type 0
HoldsOf None i = Unit {0}
HoldsOf (Some s) i = has s i ≡ true

-- a term is satisfied where some state is left and each that is left makes it hold; where no term stands there is
-- nothing to ask
abbrev pub HoldsAt : Members → Option Members → Type 0
HoldsAt set None = Unit {0}
HoldsAt set (Some x) = (0 < size set) × (inside set x ≡ true)

-- an assignment breaks an incompatibility where each of its terms holds
abbrev pub Breaks : Assignment → Terms → Type 0
Breaks x f = (u : ℕ) → HoldsOf (f u) (x u)

-- an assignment that breaks the last breaks one of the first two
abbrev pub OneIsBroken : Terms → Terms → Terms → Type 0
OneIsBroken f g h = (x : Assignment) → IsWithin x f → IsWithin x g → Breaks x h → Breaks x f ⊎ Breaks x g

-- each set is of its vertex's universe
abbrev pub LiesIn : (ℕ → ℕ) → Terms → Type 0
LiesIn space f = (u : ℕ) (s : Members) → f u ≡ Some s → length s ≡ space u
