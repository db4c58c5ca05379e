-- What is kept of lists that steps name entries of.
use Rattle.std.specs.Prelude.{◌≡◌, ◌&&◌, nat_eq, ℕ, List, Bool}
use Rattle.std.specs.HashMap.{HashMap}
use Rattle.std.specs.HashSet.{HashSet}
use Rattle.std.specs.List.{list_any}
use Rattle.model.specs.Content.{Problem, passes}
use Rattle.model.specs.Summary.{asked_of_target, entries_at, same_text}
use Rattle.model.specs.Vertices.{Owner}
use Rattle.model.specs.Causes.{dependency_at, entries_or_none, same_entry, table_of_owner}
use Rattle.vertices.specs.inner.RefViews.{owner_ref_view}
use Rattle.vertices.specs.declared.vertex.OwnerRef.{OwnerRef}
use Rattle.lookups.specs.inner.Numbers.{AreRight, IsOf, IsOfRow, Row, same_ref, same_row}
use Rattle.axioms.specs.inner.Entries.{HasEntries, row_has}
use Rattle.axioms.specs.inner.Pairs.{has_pair}
use Rattle.axioms.specs.declared.entries.Named.{Named}
use Rattle.axioms.specs.declared.pairs.Pairs.{Pairs}

-- the entries of a feature of the owner
abbrev pub AreOfRow : {S : Type 0} → Problem → Owner → List ℕ → HashSet Named S → Type 0
AreOfRow q o f s = HasEntries (λ e. list_any (same_entry e) (entries_or_none (entries_at f (table_of_owner q o)))) s

abbrev pub AreOfRows : {S T : Type 0} → Problem → HashMap Row (HashSet Named S) T → Type 0
AreOfRows q m = AreRight same_row (IsOfRow (AreOfRow q)) m

-- the entries of all features of the owner
abbrev pub AreOfOwner : {S : Type 0} → Problem → Owner → HashSet Named S → Type 0
AreOfOwner q o s = HasEntries (λ e. list_any (row_has e (table_of_owner q o)) (table_of_owner q o)) s

abbrev pub AreOfOwners : {S T : Type 0} → Problem → HashMap OwnerRef (HashSet Named S) T → Type 0
AreOfOwners q m = AreRight same_ref (IsOf (AreOfOwner q)) m

-- an owner, and the number of a dependency
abbrev pub Numbered : Type 0
Numbered = OwnerRef × ℕ

abbrev pub same_numbered : Numbered → Numbered → Bool
same_numbered x y = same_ref x.0 y.0 && nat_eq x.1 y.1

-- the features that the dependency asks for by its list, with the name of its package
abbrev pub AreListed : Problem → Owner → ℕ → Pairs → Type 0
AreListed q o i p = (g : List ℕ) → passes (λ d. has_pair p d.real_name g) (dependency_at q o i)
    ≡ passes (λ d. list_any (same_text g) (asked_of_target d)) (dependency_at q o i)

abbrev pub IsOfNumber : {V : Type 0} → (Owner → ℕ → V → Type 0) → Numbered → V → Type 0
IsOfNumber Is x v = Is (owner_ref_view x.0) x.1 v

abbrev pub AreLists : {S : Type 0} → Problem → HashMap Numbered Pairs S → Type 0
AreLists q m = AreRight same_numbered (IsOfNumber (AreListed q)) m
