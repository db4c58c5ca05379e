use Rattle.std.proofs.Common.{is_some, refl, ap, sym, ◌∙◌}
use Rattle.features.specs.inner.Tables.{rows_of}
use Rattle.features.proofs.TableLemmas.{has-get, is_some-option_map}
use Rattle.features.proofs.rows.has_row.Goals as goal

pub returns : goal.returns
returns c = c.is_some.ensures ∙ sym (is_some-option_map (λ v. v.now) c.entries_in.result)
    ∙ ap is_some c.entries_in.ensures
    ∙ sym (has-get (rows_of c.args.rows.now) c.args.rows.now c.args.name.now refl)
