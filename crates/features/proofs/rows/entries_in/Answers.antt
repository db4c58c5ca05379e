use Rattle.std.proofs.Common.{rules, Some, ap, ◌∙◌}
use Rattle.std.proofs.lemmas.Fn.{always_returns_same}
use Rattle.model.specs.Order.{text_cmp}
use Rattle.features.proofs.RowLemmas.{row_found, row_lacking}
use Rattle.features.proofs.rows.entries_in.Goals as goal

pub returns-in-Ok : goal.returns-in-Ok
returns-in-Ok c =
    let searched = c.binary_search_by.ensures.position
    (λ e. text_cmp e.0 c.args.name.now) (always_returns_same _ _ _ (λ a r g called. search rules)) in
    ap Some c.entries.ensures ∙ ap (λ row. Some row.1) c.index-rows-place.is
    ∙ row_found c.args.rows.now c.args.name.now c.in-Ok.place c.index-rows-place.result c.requires
    (rw c.in-Ok.is at searched) (rw c.in-Ok.is at c.binary_search_by.ensures.bound)

pub returns-in-Err : goal.returns-in-Err
returns-in-Err c =
    let searched = c.binary_search_by.ensures.position
    (λ e. text_cmp e.0 c.args.name.now) (always_returns_same _ _ _ (λ a r g called. search rules)) in
    row_lacking c.args.rows.now c.args.name.now _ c.requires (rw c.in-Err.is at searched)
