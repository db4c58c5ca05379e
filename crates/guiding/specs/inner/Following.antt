-- What a search keeps of an assignment that breaks no axiom and that its decisions follow, and of what its axioms are.
use Rattle.std.specs.Prelude.{◌≡◌, ◌≢◌, ℕ, ◌<◌, true, List, length, Some}
use Rattle.version_sets.specs.Sets.{Members, has, size}
use Rattle.incompatibilities.specs.Incompatibilities.{Assignment, Terms}
use Rattle.incompatibilities.specs.Stores.{EntryView, IsAxiom, entry}
use Rattle.propagation.specs.Satisfaction.{Agrees, BreaksNone}
use Rattle.propagation.specs.Trails.{TrailView, set_of}
use Rattle.guiding.specs.declared.turns.Answer.{Answer}
use Rattle.guiding.specs.declared.turns.Answer.TheVariants.{Selection, Unsolvable}
use Rattle.guiding.specs.declared.turns.Turn.{Turn}
use Rattle.guiding.specs.declared.turns.Turn.TheVariants.{Goes, Ends}

-- it breaks no entry, and its states are left
abbrev pub IsLeft : Assignment → List EntryView → TrailView → Type 0
IsLeft x es t = BreaksNone x es × Agrees x t.sets

abbrev pub IsSelection : Answer → Type 0
IsSelection Selection = Unit {0}
IsSelection (Unsolvable id) = ⊥

abbrev pub RefutesNothing : Turn → Type 0
RefutesNothing (Goes next) = Unit {0}
RefutesNothing (Ends answer) = IsSelection answer

-- each such assignment of the vertices that there are afterwards was one before, and if it broke no entry and its
-- states were left, that is so afterwards too
abbrev pub KeepsFollowed : (Assignment → Type 0) → List EntryView → TrailView → (Assignment → Type 0)
    → List EntryView → TrailView → Type 0
KeepsFollowed was es t is more new = (x : Assignment) → is x → was x × (IsLeft x es t → IsLeft x more new)

abbrev pub TurnsOn : (Assignment → Type 0) → List EntryView → TrailView → Turn → Type 0
TurnsOn is es t turn = (x : Assignment) → is x → IsLeft x es t → RefutesNothing turn

-- the axioms of a store are what they may be
abbrev pub AreGiven : (EntryView → Type 0) → List EntryView → Type 0
AreGiven given es = (id : ℕ) → id < length es → IsAxiom (entry es id).origin → given (entry es id)

-- in an entry, each vertex but one whose term the assignment makes hold has one state left
abbrev pub IsDecidedBut : ℕ → Assignment → List Members → Terms → Type 0
IsDecidedBut w x sets f = (u : ℕ) → u ≢ w → (s : Members) → f u ≡ Some s → has s (x u) ≡ true → size (set_of sets u) ≡ 1
