use Rattle.std.proofs.Common.{◌||◌, ap₂, ap, ◌∙◌}
use Rattle.std.specs.List.{list_any}
use Rattle.model.specs.Tables.{is_dep}
use Rattle.features.specs.EntryViews.{entry_views}
use Rattle.features.proofs.DraftLemmas.{has_dep_entry-more}
use Rattle.features.proofs.draft.entered.Goals as goal

pub rows-preserved : goal.rows-preserved
rows-preserved c = λ d. c.in_ok-put_entered.ensures d
    ∙ ap₂ (λ a es. a || list_any (is_dep d) (entry_views es)) (c.rows.invariant d)
    (c.as_slice.ensures.value ∙ ap (λ v. v.items) c.entries.ensures)
    ∙ has_dep_entry-more d c.args.written.now c.rows.row-index c.row-item.result c.rows-test.true c.row-item.is
