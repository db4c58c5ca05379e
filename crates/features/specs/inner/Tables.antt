-- A feature table as its rows: the features in the order of their names, each with its entries (Cargo book,
-- "Features").
use Rattle.std.specs.Prelude.{ℕ, Bool, true, false, List, map, Result, Ok, Err, Vec}
use Rattle.std.specs.declared.alloc.Global.{Global}
use Rattle.std.specs.List.Sorted.{IsStrictlySortedBy}
use Rattle.std.specs.Map.{keys_of}
use Rattle.model.specs.Order.{text_cmp}
use Rattle.model.specs.Summary.{Table}
use Rattle.model.specs.Tables as model
use Rattle.features.specs.EntryViews.{entry_views}
use Rattle.features.specs.declared.entry.Entry.{Entry}
use Rattle.features.specs.declared.table.DepName.{DepName}
use Rattle.features.specs.declared.table.FeatureFault.{FeatureFault}
use Rattle.features.specs.declared.table.FeatureFault.TheVariants.{OutOfMemory, NoSuchFeature, NoSuchDependency}
use Rattle.features.specs.declared.table.FeatureFault.TheVariants.{NotOptional}

-- what a map of vectors is as a table
abbrev pub rows_of : List (List ℕ × Vec Entry Global) → Table
rows_of es = map (λ e. (e.0, entry_views e.1.items)) es

-- the rows of a table rise by the names of their features
abbrev pub AreRising : List (List ℕ × Vec Entry Global) → Type 0
AreRising es = IsStrictlySortedBy text_cmp (keys_of es)

abbrev pub dep_name_view : DepName → model.DepName
dep_name_view d = record { name = d.name; optional = d.optional }

abbrev pub dep_names_view : List DepName → List model.DepName
dep_names_view ds = map dep_name_view ds

abbrev pub table_wants_memory : FeatureFault → Bool
table_wants_memory OutOfMemory = true
table_wants_memory (NoSuchFeature f) = false
table_wants_memory (NoSuchDependency f) = false
table_wants_memory (NotOptional f) = false

-- a fault of a table at a feature
abbrev pub fault_at : model.TableFault → List ℕ → FeatureFault
fault_at model.no_such_feature f = NoSuchFeature f
fault_at model.no_such_dependency f = NoSuchDependency f
fault_at model.not_optional f = NotOptional f

abbrev pub table_or_fault : Result Table (model.TableFault × List ℕ) → Result Table FeatureFault
table_or_fault (Ok table) = Ok table
table_or_fault (Err e) = Err (fault_at e.0 e.1)

-- the table of these dependencies and written features, or what is wrong with it
abbrev pub built : List model.DepName → Table → Result Table FeatureFault
built ds written = table_or_fault (model.table_of ds written)
