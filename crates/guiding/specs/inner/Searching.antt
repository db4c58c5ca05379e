-- What a search keeps between two turns, and the number that falls (Dart pub's `solver.md`, "The Algorithm").
use Rattle.std.specs.Prelude.{◌≡◌, ℕ, zero, suc, ◌+◌, ◌<◌, ◌≤◌, Bool, true, false, List, [], ◌∷◌, ◌++◌, length}
use Rattle.std.specs.Prelude.{slice_index_or, take, Some}
use Rattle.version_sets.specs.Sets.{Members, has, size}
use Rattle.incompatibilities.specs.Incompatibilities.{states_at}
use Rattle.incompatibilities.specs.Stores.{EntryView, Follows, IsAxiom, entry, terms_of}
use Rattle.propagation.specs.Trails.{TrailView, end_sets, latest_at, level_after, past, set_of, sets_at, space_of}
use Rattle.propagation.specs.Trails.{total}
use Rattle.propagation.specs.Promises.{IsTrail, IsProgress}
use Rattle.propagation.specs.declared.propagating.Progress.{Progress}
use Rattle.conflicts.specs.Resolving.{Quiet}
use Rattle.guiding.specs.inner.Measures.{measure_of}

-- the first values of a function
abbrev pub firsts : ℕ → (ℕ → ℕ) → List ℕ
firsts zero f = []
firsts (suc n) f = firsts n f ++ f n ∷ []

-- how many states are left at the end of a level, and how many there were; the vertices that are still to come have all
-- of theirs, `late` in all
abbrev pub sum_at : ℕ → TrailView → ℕ → ℕ
sum_at late t l = total (end_sets t l) + late

abbrev pub start_of : ℕ → TrailView → ℕ
start_of late t = total (sets_at t 0) + late

abbrev pub space_in : ℕ → ℕ → TrailView → ℕ
space_in s late t = measure_of s (firsts (suc t.level) (sum_at late t))

abbrev pub space : ℕ → TrailView → ℕ
space late t = space_in (start_of late t) late t

-- each level leaves fewer states than the one before it
pub record IsFalling (s late : ℕ) (t : TrailView) : Type 0 where
  pub first : sum_at late t 0 ≤ s
  pub falls : (l : ℕ) → l < t.level → sum_at late t (suc l) < sum_at late t l
  pub top : past t.level t.steps ≡ []

-- between two turns, after a propagation
pub record IsSearching (late : ℕ) (es : List EntryView) (t : TrailView) (progress : Progress) : Type 0 where
  pub trail : IsTrail es t
  pub falling : IsFalling (start_of late t) late t
  pub quiet : Quiet es t t.level
  pub stops : IsProgress es t.sets progress

-- which pairs of a vertex and a state had their axioms put into the store
abbrev pub Pairs : Type 0
Pairs = ℕ → ℕ → Bool

-- a state is the one that is left
abbrev pub IsOnly : Members → ℕ → Type 0
IsOnly set i = (size set ≡ 1) × (has set i ≡ true)

abbrev pub AllAsked : Pairs → List Members → Type 0
AllAsked asked sets = (v i : ℕ) → v < length sets → IsOnly (set_of sets v) i → asked v i ≡ true

-- at the end of each earlier level, the pairs that stood alone had been asked for
abbrev pub IsCaught : Pairs → TrailView → Type 0
IsCaught asked t = (l : ℕ) → l < t.level → AllAsked asked (end_sets t l)

-- each pair that stood alone after the first places was asked for
pub record IsSeen (places : ℕ) (asked : Pairs) (t : TrailView) : Type 0 where
  pub within : places ≤ length t.steps
  pub all : AllAsked asked (sets_at t places)

abbrev pub AreMore : Pairs → Pairs → Type 0
AreMore old new = (v i : ℕ) → old v i ≡ true → new v i ≡ true

-- of the vertices from the n-th on, each that has one state was asked for with it
abbrev pub LoneAsked : ℕ → Pairs → List Members → Type 0
LoneAsked n asked sets = (v i : ℕ) → n ≤ v → v < length sets → IsOnly (set_of sets v) i → asked v i ≡ true

-- an axiom of a pair that hadn't been asked for, whose vertex is one of the first n: at the vertex it has the one state
pub record IsOfNew (n : ℕ) (asked : Pairs) (e : EntryView) : Type 0 where
  pub vertex : ℕ
  pub state : ℕ
  pub below : vertex < n
  pub is_new : asked vertex state ≡ false
  pub states : Members
  pub term : states_at e.terms vertex ≡ Some states
  pub only : IsOnly states state
  pub given : IsAxiom e.origin

abbrev pub AreOfNew : ℕ → Pairs → List EntryView → Type 0
AreOfNew n asked gained = (i : ℕ) → i < length gained → IsOfNew n asked (entry gained i)

-- an entry without terms, which follows
pub record IsRefutation (es : List EntryView) (id : ℕ) : Type 0 where
  pub within : id < length es
  pub none : (entry es id).terms ≡ []
  pub follows : Follows es (terms_of es id)

-- a vertex with several states left, and one of them
pub record CanDecide (t : TrailView) (v i : ℕ) : Type 0 where
  pub within : v < length t.sets
  pub left : has (set_of t.sets v) i ≡ true
  pub several : 1 < size (set_of t.sets v)

-- the universes of a trail's vertices
pub record HasSpaces (spaces : List ℕ) (t : TrailView) : Type 0 where
  pub vertices : length t.sets ≡ length spaces
  pub each : (u : ℕ) → space_of t u ≡ slice_index_or spaces u 0

-- a trail after its first places, and that each place brings the number down
abbrev pub up_to : TrailView → ℕ → TrailView
up_to t k = record {
  sets = sets_at t k;
  steps = take k t.steps;
  latest = latest_at t k;
  level =
      level_after t.steps k;
  assigned = t.assigned;
  sifted = t.sifted;
  settled = t.settled;
  propagated = t.propagated;
  fronts = t.fronts;
}

abbrev pub EachFalls : ℕ → TrailView → Type 0
EachFalls late t = (k : ℕ) → k < length t.steps → space late (up_to t (suc k)) < space late (up_to t k)

-- the first assignment after a jump back brings the number below what it was before the jump
abbrev pub HasJumped : ℕ → TrailView → TrailView → TrailView → Type 0
HasJumped late old mid new =
    (length mid.steps < length new.steps) × (space late (up_to new (suc (length mid.steps))) < space late old)
