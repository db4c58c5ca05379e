-- Feature tables: which features a package has, and what is wrong with a table that is written (Cargo book, "Features"
-- and "Optional dependencies").
use Rattle.std.specs.Prelude.{◌≡◌, ℕ, List, [], ◌∷◌, Bool, false, not, ◌&&◌, ◌||◌, if◌then◌else◌, Option, Some, None}
use Rattle.std.specs.Prelude.{Result, Ok, Err, codes}
use Rattle.std.specs.BTreeMap.{insert_entry}
use Rattle.std.specs.List.{list_any, AllPairs}
use Rattle.std.specs.Option.{option_or}
use Rattle.std.specs.declared.cmp.Ordering.TheVariants.{Less}
use Rattle.model.specs.Summary.{Entry, feature, dependency, dependency_feature, weak_feature, Table, entries_at}
use Rattle.model.specs.Summary.{has_feature, same_text}
use Rattle.model.specs.Order.{text_cmp}
use Rattle.model.specs.Outcome.{◌>>=◌}

-- what a package calls a dependency, of whatever kind
pub record DepName : Type 0 where
  pub name : List ℕ
  pub optional : Bool

-- what is written: features by their bytes, each once, with its entries
abbrev pub Written : Type 0
Written = Table

-- the feature of the one row comes before that of the other
abbrev pub Before : List ℕ × List Entry → List ℕ × List Entry → Type 0
Before a b = text_cmp a.0 b.0 ≡ Less

-- each feature once, by their bytes
abbrev pub IsInOrder : Table → Type 0
IsInOrder table = AllPairs Before table

abbrev pub default_feature : List ℕ
default_feature = codes "default"

abbrev pub has_dependency : List DepName → List ℕ → Bool
has_dependency ds d = list_any (λ e. same_text d e.name) ds

-- a name is optional if some dependency of that name is
abbrev pub is_optional : List DepName → List ℕ → Bool
is_optional ds d = list_any (λ e. same_text d e.name && e.optional) ds

-- whether this is the entry `dep:d`
abbrev pub is_dep : List ℕ → Entry → Bool
is_dep d (feature g) = false
is_dep d (dependency e) = same_text d e
is_dep d (dependency_feature e g) = false
is_dep d (weak_feature e g) = false

-- whether some entry is `dep:d`
abbrev pub has_dep_entry : Written → List ℕ → Bool
has_dep_entry written d = list_any (λ row. list_any (is_dep d) row.1) written

-- an optional name has an implicit feature, unless some entry is `dep:d` or an explicit feature is called d
abbrev pub is_implicit : List DepName → Written → List ℕ → Bool
is_implicit ds written d = is_optional ds d && (not (has_dep_entry written d) && not (has_feature written d))

-- what an implicit feature has
abbrev pub implicit_entries : List ℕ → List Entry
implicit_entries d = dependency d ∷ []

-- whether the table has the feature in the end
abbrev pub is_feature : List DepName → Written → List ℕ → Bool
is_feature ds written g = has_feature written g || (is_implicit ds written g || same_text g default_feature)

-- The entries of a feature in the end: those that are written, else those of an implicit feature, else none for
-- `default`.
abbrev pub entries_meant : List DepName → Written → List ℕ → Option (List Entry)
entries_meant ds written f = option_or (entries_at f written)
    (if is_implicit ds written f then Some (implicit_entries f) else
    if same_text f default_feature then Some [] else None)

-- a table with these entries of a feature too
abbrev pub with_row : Table → List ℕ → List Entry → Table
with_row table f es = insert_entry text_cmp table f es

-- a table with the implicit features of these dependencies too
unfoldable pub with_implicit : (List ℕ → Bool) → List DepName → Table → Table
with_implicit implicit [] table = table
with_implicit implicit (d ∷ ds) table =
    with_implicit implicit ds (if implicit d.name then with_row table d.name (implicit_entries d.name) else table)

-- a table with the feature `default` too, empty where it isn't there yet
abbrev pub with_default : Table → Table
with_default table = if has_feature table default_feature then table else with_row table default_feature []

-- what is written, with the features that nobody wrote
abbrev pub completed : List DepName → Written → Table
completed ds written = with_default (with_implicit (is_implicit ds written) ds written)

pub data TableFault : Type 0 where
  -- F1: an entry `g` is no feature of the table
  no_such_feature : TableFault
  -- F2: an entry `dep:d`, `d/g` or `d?/g`, and no dependency is called d
  no_such_dependency : TableFault
  -- F3: an entry `dep:d`, and d isn't optional
  not_optional : TableFault

-- whether an entry has the fault
abbrev pub has_fault : List DepName → Written → TableFault → Entry → Bool
has_fault ds written no_such_feature (feature g) = not (is_feature ds written g)
has_fault ds written no_such_dependency (dependency d) = not (has_dependency ds d)
has_fault ds written no_such_dependency (dependency_feature d g) = not (has_dependency ds d)
has_fault ds written no_such_dependency (weak_feature d g) = not (has_dependency ds d)
has_fault ds written not_optional (dependency d) = not (is_optional ds d)
has_fault ds written fault e = false

-- the first feature with an entry that passes the test
unfoldable pub first_with : (Entry → Bool) → Written → Option (List ℕ)
first_with test [] = None
first_with test (row ∷ rows) = if list_any test row.1 then Some row.0 else first_with test rows

abbrev pub fault_at : TableFault → Option (List ℕ) → Result (Unit {0}) (TableFault × List ℕ)
fault_at fault None = Ok tt
fault_at fault (Some f) = Err (fault, f)

-- passes where no entry has the fault
abbrev pub free_of : List DepName → Written → TableFault → Result (Unit {0}) (TableFault × List ℕ)
free_of ds written fault = fault_at fault (first_with (has_fault ds written fault) written)

-- the table of a package, or its lowest fault at the first feature that has it
unfoldable pub table_of : List DepName → Written → Result Table (TableFault × List ℕ)
table_of ds written = do
  features ← free_of ds written no_such_feature
  dependencies ← free_of ds written no_such_dependency
  optional ← free_of ds written not_optional
  Ok (completed ds written)
