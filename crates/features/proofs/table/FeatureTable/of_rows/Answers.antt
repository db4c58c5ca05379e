use Rattle.std.proofs.Common.{rules}
use Rattle.features.specs.inner.Tables.{dep_names_view, rows_of}
use Rattle.features.proofs.BuildLemmas.{built-rows}
use Rattle.features.proofs.table.FeatureTable.of_rows.Goals as goal

pub returns-in_err-implicit : goal.returns-in_err-implicit
returns-in_err-implicit c =
    rw (built-rows (dep_names_view c.args.dependencies.now) (rows_of c.args.written.items)) (search rules)

pub returns : goal.returns
returns c = rw (built-rows (dep_names_view c.args.dependencies.now) (rows_of c.args.written.items)) (search rules)
