-- What steps have no term on and what they name, kept by what it was looked for with.
use Rattle.std.specs.Prelude.{◌≡◌, ◌&&◌, nat_eq, ℕ, List, Bool, Option, Some, None}
use Rattle.std.specs.Borrow.{Bor}
use Rattle.std.specs.Cmp.Lexicographic.{pointwise}
use Rattle.std.specs.HashMap.{HashMap, get}
use Rattle.std.specs.Ordering.{on}
use Rattle.features.specs.declared.entry.Entry as code
use Rattle.model.specs.Content.{Problem}
use Rattle.model.specs.Summary.{entries_at}
use Rattle.model.specs.Vertices.{Owner, the_root, version_of, owner_brings, same_owner}
use Rattle.model.specs.Causes.{entries_or_none, table_of_owner}
use Rattle.model.specs.inner.Instances.{needed_unmatched, enabled_unmatched}
use Rattle.vertices.specs.inner.RefViews.{owner_ref_view}
use Rattle.vertices.specs.declared.vertex.OwnerRef.{OwnerRef}
use Rattle.lookups.specs.inner.ByName.{AreFirst, AreGone, Names}

-- a version, and a feature of it
abbrev pub Row : Type 0
Row = OwnerRef × Bor (List ℕ)

abbrev pub same_ref : OwnerRef → OwnerRef → Bool
same_ref = on owner_ref_view same_owner

abbrev pub same_row : Row → Row → Bool
same_row x y = same_ref x.0 y.0 && pointwise nat_eq x.1.now y.1.now

-- each value that is kept is right for its key
abbrev pub AreRight : {K V S : Type 0} → (K → K → Bool) → (K → V → Type 0) → HashMap K V S → Type 0
AreRight {K} {V} same Is m = (k : K) (v : V) → get same m k ≡ Some v → Is k v

-- ---- by owner

abbrev pub IsOf : {V : Type 0} → (Owner → V → Type 0) → OwnerRef → V → Type 0
IsOf Is o v = Is (owner_ref_view o) v

-- the first dependency that the owner needs and no candidate serves
abbrev pub IsNeeded : Problem → Owner → ℕ → Type 0
IsNeeded q o n = needed_unmatched q o ≡ Some n

abbrev pub AreNeeded : {S : Type 0} → Problem → HashMap OwnerRef ℕ S → Type 0
AreNeeded q m = AreRight same_ref (IsOf (IsNeeded q)) m

-- those that no candidate serves, by what they are called
abbrev pub AreGoneOf : {S : Type 0} → Problem → Owner → Names ℕ S → Type 0
AreGoneOf q o ns = AreGone q (owner_brings q o).dependencies ns

abbrev pub AreUnmatched : {S T : Type 0} → Problem → HashMap OwnerRef (Names ℕ S) T → Type 0
AreUnmatched q m = AreRight same_ref (IsOf (AreGoneOf q)) m

-- ---- by owner and feature

abbrev pub IsOfRow : {V : Type 0} → (Owner → List ℕ → V → Type 0) → Row → V → Type 0
IsOfRow Is r v = Is (owner_ref_view r.0) r.1.now v

-- the first dependency that entries of the feature enable and no candidate serves: none of the root, which has no such
-- entries
abbrev pub enabled_by : Problem → Owner → List ℕ → Option ℕ
enabled_by q the_root f = None
enabled_by q (version_of name v) f = enabled_unmatched q name v f

abbrev pub IsEnabled : Problem → Owner → List ℕ → ℕ → Type 0
IsEnabled q o f n = enabled_by q o f ≡ Some n

abbrev pub AreEnabled : {S : Type 0} → Problem → HashMap Row ℕ S → Type 0
AreEnabled q m = AreRight same_row (IsOfRow (IsEnabled q)) m

-- the first entries of the feature that enable something, by what it is called
abbrev pub AreFirstOf : {S : Type 0} → Problem → Owner → List ℕ → Names (Bor code.Entry) S → Type 0
AreFirstOf q o f es = AreFirst (entries_or_none (entries_at f (table_of_owner q o))) es

abbrev pub AreFirsts : {S T : Type 0} → Problem → HashMap Row (Names (Bor code.Entry) S) T → Type 0
AreFirsts q m = AreRight same_row (IsOfRow (AreFirstOf q)) m
