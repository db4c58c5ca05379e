-- How a feature table is built from what is written: its faults one after another, and the rows that are put to it.
use Rattle.std.specs.Prelude.{ℕ, List, [], ◌∷◌, map, Bool, Result, Ok, Err}
use Rattle.std.specs.List.{filter}
use Rattle.model.specs.Summary.{Entry, feature, dependency, dependency_feature, weak_feature, Table}
use Rattle.model.specs.Outcome.{◌>>=◌}
use Rattle.model.specs.Tables as model
use Rattle.features.specs.inner.Tables.{fault_at}
use Rattle.features.specs.declared.draft.Lack.{Lack}
use Rattle.features.specs.declared.draft.Lack.TheVariants.{Feature, Dependency, Optional}
use Rattle.features.specs.declared.table.FeatureFault.{FeatureFault}

-- the fault of an entry for which this is lacking
abbrev pub lack_view : Lack → model.TableFault
lack_view Feature = model.no_such_feature
lack_view Dependency = model.no_such_dependency
lack_view Optional = model.not_optional

-- a fault at a feature, or none
abbrev pub or_fault : Result (Unit {0}) (model.TableFault × List ℕ) → Result (Unit {0}) FeatureFault
or_fault (Ok u) = Ok tt
or_fault (Err e) = Err (fault_at e.0 e.1)

-- no entry has the fault
abbrev pub without : List model.DepName → Table → model.TableFault → Result (Unit {0}) FeatureFault
without ds written fault = or_fault (model.free_of ds written fault)

-- whether an entry has no fault at all
abbrev pub is_well : List model.DepName → Table → Entry → Bool
is_well ds written (feature g) = model.is_feature ds written g
is_well ds written (dependency d) = model.is_optional ds d
is_well ds written (dependency_feature d g) = model.has_dependency ds d
is_well ds written (weak_feature d g) = model.has_dependency ds d

-- no entry has a fault
abbrev pub faultless : List model.DepName → Table → Result (Unit {0}) FeatureFault
faultless ds written = without ds written model.no_such_feature >>= λ features.
    without ds written model.no_such_dependency >>= λ dependencies. without ds written model.not_optional

-- the rows of the implicit features of these dependencies
abbrev pub implicit_rows : (List ℕ → Bool) → List model.DepName → Table
implicit_rows implicit ds = map (λ d. (d.name, model.implicit_entries d.name)) (filter (λ d. implicit d.name) ds)

-- the rows of the implicit features, where what is written has no fault
abbrev pub rows_or_fault : List model.DepName → Table → Result Table FeatureFault
rows_or_fault ds written = faultless ds written >>= λ u. Ok (implicit_rows (model.is_implicit ds written) ds)

-- a table with these rows too, one after another
abbrev pub with_rows : Table → Table → Table
with_rows table [] = table
with_rows table (row ∷ rows) = with_rows (model.with_row table row.0 row.1) rows
