use Rattle.std.proofs.Common.{option_map, slice_get, sym, ap, ◌∙◌}
use Rattle.std.specs.Option.{option_and_then}
use Rattle.catalogue.specs.inner.Views.{candidates_view}
use Rattle.catalogue.proofs.Rows.{item_at, rows-at}
use Rattle.catalogue.proofs.store.Catalogue.of.Goals as goal

pub returns-in_err-get_index_of : goal.returns-in_err-get_index_of
returns-in_err-get_index_of c =
    let cs = c.self.inside.candidates.items in
    let none = c.in_err-get_index_of.was in
    rw (c.from_residual.ensures, ← c.self.view_is)
    (sym (rows-at c.self.inside.names.keys cs c.args.name.now c.self.invariant.0 ∙ ap (option_and_then (λ i.
    option_map candidates_view (slice_get cs i))) (sym c.get_index_of.ensures.index ∙ none)))

pub returns : goal.returns
returns c =
    let cs = c.self.inside.candidates.items in
    let some = c.in_ok-get_index_of.was in
    let found = rw c.deref.ensures.value at
    (item_at candidates_view c.deref.result.now c.in_ok-get_index_of.field-0 c.get.result c.get.ensures.lookup) in
    rw (← c.self.view_is)
    (found ∙ sym (rows-at c.self.inside.names.keys cs c.args.name.now c.self.invariant.0 ∙ ap (option_and_then (λ i.
    option_map candidates_view (slice_get cs i))) (sym c.get_index_of.ensures.index ∙ some)))
