use Rattle.std.proofs.Common.{ap, sym, ◌∙◌}
use Rattle.std.specs.BTreeMap.{insert_entry}
use Rattle.model.specs.Order.{text_cmp}
use Rattle.model.specs.Summary.{has_feature}
use Rattle.model.specs.Tables.{default_feature}
use Rattle.features.specs.inner.Tables.{rows_of}
use Rattle.features.proofs.BuildLemmas.{default-put}
use Rattle.features.proofs.table.with_default.Goals as goal

pub returns-clause-rows : goal.returns-clause-rows
returns-clause-rows c =
    default-put c.args.rows.items c.put_row.new.rows.items c.in_ok-new.field-0.0 c.in_ok-new.field-0.1
    (ap (λ rows. has_feature (rows_of rows) default_feature) (sym c.deref.ensures.value) ∙ sym c.has_row.ensures
    ∙ c.if-has_row.false) (ap (λ row. row.0) c.in_ok-new.ensures ∙ c.in_ok-name.ensures)
    (ap (λ row. row.1.items) c.in_ok-new.ensures ∙ c.new.ensures.items)
    (c.in_ok-put_row.ensures.put
    ∙ ap (λ rows. insert_entry text_cmp rows c.in_ok-new.field-0.0 c.in_ok-new.field-0.1)
    c.in_ok-reserve_exact.ensures.items)
