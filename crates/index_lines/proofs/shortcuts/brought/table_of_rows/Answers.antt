use Rattle.std.proofs.Common.{rules, ◌≡◌, refl, sym, ap, ◌∙◌, subst}
use Rattle.model.specs.Outcome.{Gives}
use Rattle.model.specs.Tables.{table_of}
use Rattle.features.specs.inner.Tables.{dep_names_view, rows_of}
use Rattle.index_lines.specs.inner.Rows.{braced, row_texts, row_views}
use Rattle.index_lines.specs.Shapes.{wants_memory}
use Rattle.index_lines.specs.Records.{unless_faulty}
use Rattle.index_lines.proofs.RowsLemmas.{copies-rise, table-of_rows}
use Rattle.index_lines.proofs.shortcuts.brought.table_of_rows.Goals as goal

pub table-requires : goal.table-requires
table-requires c =
    let rows = c.args.rows.now in
    let same : rows_of c.in_ok-rows.rows.items ≡ row_views rows = search rules in
    copies-rise rows c.in_ok-rows.rows.items same c.requires

pub returns : goal.returns
returns c =
    let rows = c.args.rows.now in
    let names = dep_names_view c.args.names.now in
    let same : rows_of c.in_ok-rows.rows.items ≡ row_views rows = search rules in
    subst (Gives wants_memory (λ t. t) c.table.result)
    (ap (λ views. unless_faulty (table_of names views)) same
    ∙ sym (table-of_rows names (braced (row_texts rows)) rows refl c.requires)) c.table.ensures
