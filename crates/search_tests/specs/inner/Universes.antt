-- Stores and trails of given universes (this repository's tests).
use Rattle.std.specs.Prelude.{◌≡◌, ℕ, ◌<◌, ◌≤◌, List, length, slice_index_or}
use Rattle.version_sets.specs.Sets.{size}
use Rattle.incompatibilities.specs.Incompatibilities.{Assignment, Breaks, LiesIn}
use Rattle.incompatibilities.specs.Stores.{EntryView, terms_of}
use Rattle.propagation.specs.Satisfaction.{Agrees}
use Rattle.propagation.specs.Trails.{TrailView, set_of}
use Rattle.search_tests.specs.inner.Meeting.{universe_at}
use Rattle.guiding.specs.inner.Searching.{IsRefutation}
use Rattle.guiding.specs.declared.turns.Answer.{Answer}
use Rattle.guiding.specs.declared.turns.Answer.TheVariants.{Selection, Unsolvable}

abbrev pub AllLie : List ℕ → List EntryView → Type 0
AllLie spaces es = (id : ℕ) → id < length es → LiesIn (universe_at spaces) (terms_of es id)

-- every vertex has at most one state left
abbrev pub AllDecided : TrailView → Type 0
AllDecided t = (v : ℕ) → v < length t.sets → size (set_of t.sets v) ≤ 1

-- a vertex has more than one
abbrev pub IsOpen : TrailView → ℕ → Type 0
IsOpen t v = (v < length t.sets) × (1 < size (set_of t.sets v))

-- an assignment has the preferred states
abbrev pub Prefers : List ℕ → List ℕ → Assignment → Type 0
Prefers spaces states x = (v : ℕ) → v < length spaces → (v < length states) × (slice_index_or states v 0 ≡ x v)

abbrev pub IsWithinAll : List ℕ → Assignment → Type 0
IsWithinAll spaces x = (v : ℕ) → v < length spaces → x v < slice_index_or spaces v 0

-- a refusal is an entry without terms, which follows
abbrev pub Refutes : List EntryView → Answer → Type 0
Refutes es Selection = Unit {0}
Refutes es (Unsolvable id) = IsRefutation es id

-- after a selection each assignment out of what is left breaks no entry
abbrev pub Selects : List EntryView → TrailView → Answer → Type 0
Selects es t Selection = (x : Assignment) → Agrees x t.sets → (id : ℕ) → id < length es
    → ¬ Breaks x (terms_of es id)
Selects es t (Unsolvable id) = Unit {0}
