-- What a turn of a search gives.
use Rattle.std.specs.Prelude.{◌≡◌, ℕ, ◌+◌, ◌<◌, ◌≤◌, Bool, true, false, List, ◌++◌, length, Option, Some, None}
use Rattle.incompatibilities.specs.Stores.{EntryView}
use Rattle.propagation.specs.Trails.{TrailView}
use Rattle.propagation.specs.Promises.{LieIn, IsProgress}
use Rattle.propagation.specs.inner.Widening.{IsWider, sum_of}
use Rattle.propagation.specs.declared.propagating.Progress.{Progress}
use Rattle.propagation.specs.declared.propagating.Progress.TheVariants.{Fixpoint}
use Rattle.guiding.specs.inner.Searching.{AllAsked, AreMore, AreOfNew, CanDecide, IsCaught, IsRefutation, IsSearching}
use Rattle.guiding.specs.inner.Searching.{IsSeen, LoneAsked, Pairs, space}
use Rattle.guiding.specs.declared.turns.Answer.{Answer}
use Rattle.guiding.specs.declared.turns.Answer.TheVariants.{Selection, Unsolvable}
use Rattle.guiding.specs.declared.turns.Turn.{Turn}
use Rattle.guiding.specs.declared.turns.Turn.TheVariants.{Goes, Ends}

-- vertices come, and axioms of new pairs: some pair is taken off those that are left, or no axiom is added and no pair
-- is left that stands alone
pub record IsAdding (asked more : Pairs) (left fewer late later : ℕ) (t wide : TrailView) (old new : List EntryView)
    (added : Bool) : Type 0 where
  pub spaces : List ℕ
  pub wider : IsWider spaces t wide
  pub came : sum_of spaces + later ≡ late
  pub lone : LoneAsked (length t.sets) more wide.sets
  pub gained : List EntryView
  pub grown : new ≡ old ++ gained
  pub of_new : AreOfNew (length t.sets) asked gained
  pub lies : LieIn wide new
  pub grows : AreMore asked more
  pub goes : added ≡ true → fewer < left
  pub stays : added ≡ false → (new ≡ old) × (fewer ≤ left) × AllAsked more wide.sets

abbrev pub IsChosen : Type 0 → TrailView → Option (ℕ × ℕ) → Type 0
IsChosen done t None = done
IsChosen done t (Some d) = CanDecide t d.0 d.1

-- how a search ends
abbrev pub HasEnded : Type 0 → Pairs → List EntryView → TrailView → Answer → Type 0
HasEnded done asked es t Selection = done × AllAsked asked t.sets × IsProgress es t.sets Fixpoint
HasEnded done asked es t (Unsolvable id) = IsRefutation es id

-- the search goes on, and the number that falls with each turn is below what it was
pub record HasFallen (before : ℕ) (asked : Pairs) (left late : ℕ) (es : List EntryView) (new : TrailView)
    (next : Progress) : Type 0 where
  pub searching : IsSearching late es new next
  pub caught : IsCaught asked new
  pub falls : space late new + left < before

-- the same, and how many places were looked at
pub record HasGone (before : ℕ) (asked : Pairs) (left late seen : ℕ) (es : List EntryView) (new : TrailView)
    (next : Progress) : Type 0 where
  pub fallen : HasFallen before asked left late es new next
  pub seen_is : IsSeen seen asked new

abbrev pub HasTurned : Type 0 → ℕ → Pairs → ℕ → ℕ → ℕ → List EntryView → TrailView → Turn → Type 0
HasTurned done before asked left late seen es new (Goes next) = HasGone before asked left late seen es new next
HasTurned done before asked left late seen es new (Ends ended) = HasEnded done asked es new ended
