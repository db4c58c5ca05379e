-- What a store keeps of its entries and its index (an inverted index).
use Rattle.std.specs.Prelude.{◌≡◌, ℕ, List, [], ◌∷◌, Some, map}
use Rattle.version_sets.specs.Sets.{Members}
use Rattle.terms.specs.declared.term.Term.{Term}
use Rattle.incompatibilities.specs.inner.Rows.{Rows, row_at}
use Rattle.incompatibilities.specs.Stores.{AreFounded, AreProper, EntryView, entries_view, ids_at, terms_of}
use Rattle.incompatibilities.specs.declared.origin.Origin.{Origin}
use Rattle.incompatibilities.specs.declared.store.Entry.{Entry}

abbrev pub entries_in : {S : Type 0} → List (Entry S) → List (List (Term S) × Origin)
entries_in es = map (λ e. (e.incompatibility, e.origin)) es

-- beside each number of an entry with a term at the vertex stand the states of that term
abbrev pub HaveStates : {S : Type 0} → (S → Members) → List EntryView → ℕ → List ℕ → List S → Type 0
HaveStates tests es v [] [] = Unit {0}
HaveStates tests es v [] (s ∷ ss) = ⊥
HaveStates tests es v (id ∷ ids) [] = ⊥
HaveStates tests es v (id ∷ ids) (s ∷ ss) = (terms_of es id v ≡ Some (tests s)) × HaveStates tests es v ids ss

-- each row lists the entries with a term at its vertex, and beside them the states of that term; each entry that is
-- learned comes out of its chain, and each entry is an incompatibility
pub record IsIndexed {S : Type 0} (tests : S → Members) (es : List (List (Term S) × Origin))
    (ids : Rows ℕ) (sets : Rows S) : Type 0 where
  pub listed : (v : ℕ) → row_at ids v ≡ ids_at v (entries_view tests es)
  pub states : (v : ℕ) → HaveStates tests (entries_view tests es) v (row_at ids v) (row_at sets v)
  pub founded : AreFounded (entries_view tests es)
  pub proper : AreProper (entries_view tests es)
