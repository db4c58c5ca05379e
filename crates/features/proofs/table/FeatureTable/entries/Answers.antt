use Rattle.std.proofs.Common.{◌≡◌, rules, ap, ◌∙◌}
use Rattle.std.specs.BTreeMap.{is_at}
use Rattle.std.specs.Map.{lookup}
use Rattle.model.specs.Order.{text_cmp}
use Rattle.features.specs.EntryViews.{entry_views}
use Rattle.features.specs.inner.Tables.{rows_of}
use Rattle.features.proofs.TableLemmas.{entries_at-get}
use Rattle.features.proofs.table.FeatureTable.entries.Goals as goal

pub returns-in-Some : goal.returns-in-Some
returns-in-Some c =
    let same : c.as_slice.result.now ≡ c.self.inside.features.value.items = search rules in
    let seen : rows_of c.as_slice.result.now ≡ c.args.self.now = ap rows_of same ∙ c.self.view_is in
    let at = entries_at-get c.args.self.now c.as_slice.result.now c.args.name.now _ seen
    (c.entries_in.ensures ∙ ap (λ n. lookup (is_at (text_cmp n)) c.as_slice.result.now) c.as_str.ensures.text) in
    rw (at, c.in-Some.is) (ap entry_views c.as_slice-in-Some.ensures.value)

pub returns-in-None : goal.returns-in-None
returns-in-None c =
    let same : c.as_slice.result.now ≡ c.self.inside.features.value.items = search rules in
    let seen : rows_of c.as_slice.result.now ≡ c.args.self.now = ap rows_of same ∙ c.self.view_is in
    let at = entries_at-get c.args.self.now c.as_slice.result.now c.args.name.now _ seen
    (c.entries_in.ensures ∙ ap (λ n. lookup (is_at (text_cmp n)) c.as_slice.result.now) c.as_str.ensures.text) in
    rw (at, c.in-None.is)
