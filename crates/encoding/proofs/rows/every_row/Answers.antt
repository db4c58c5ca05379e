use Rattle.std.proofs.Common.{◌≡◌, [], ap, ◌∙◌, map}
use Rattle.std.proofs.lemmas.Result.{IfOk-weaker}
use Rattle.numbering.specs.inner.KnownProblem.{problem}
use Rattle.encoding.specs.Encodings.{numbered}
use Rattle.encoding.specs.inner.Everything.{named}
use Rattle.encoding.specs.inner.Rows.{IsEncoding, row_view, sized}
use Rattle.encoding.specs.Views.{vertex_views}
use Rattle.encoding.proofs.RowLaws.{rows_are}
use Rattle.encoding.proofs.rows.every_row.Goals as goal

pub returns : goal.returns
returns c =
    let q = problem c.args.known.now in
    let is : c.in_ok-table.table ≡ numbered [] (named q) = c.in_ok-table.ensures
    ∙ ap (numbered []) (ap vertex_views c.as_slice.ensures.value ∙ c.in_ok-vertices.ensures) in
    IfOk-weaker c.sized_rows.result (λ rows. map row_view rows.items ≡ map (sized q) c.in_ok-table.table)
    (λ rows. IsEncoding q rows.items)
    (λ rows. rows_are q rows.items c.in_ok-table.table c.catalogues_are_well_formed.ensures is)
    c.sized_rows.ensures
