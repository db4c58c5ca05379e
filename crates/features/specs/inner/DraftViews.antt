-- What a draft of a feature table is of.
use Rattle.std.specs.Prelude.{List}
use Rattle.model.specs.Summary.{Table}
use Rattle.model.specs.Tables as model
use Rattle.features.specs.inner.Tables.{dep_names_view, rows_of}
use Rattle.features.specs.declared.draft.Draft.{Draft}

abbrev pub names_in : Draft → List model.DepName
names_in d = dep_names_view d.dependencies.now

abbrev pub written_in : Draft → Table
written_in d = rows_of d.written.now
