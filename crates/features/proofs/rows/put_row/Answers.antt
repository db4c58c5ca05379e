use Rattle.std.proofs.Common.{rules, ◌<◌, ◌≤◌, length, Ok, Err, subst, sym, ◌∙◌}
use Rattle.std.specs.List.Sorted.{IsBinarySearchResult}
use Rattle.std.proofs.lemmas.Fn.{always_returns_same}
use Rattle.model.specs.Order.{text_cmp}
use Rattle.features.specs.inner.Tables.{AreRising}
use Rattle.features.proofs.RowLemmas.{put_between, put_found, rising_put}
use Rattle.features.proofs.rows.put_row.Goals as goal

pub returns-in-Ok-clause-put : goal.returns-in-Ok-clause-put
returns-in-Ok-clause-put c =
    let searched = c.binary_search_by.ensures.position
    (λ e. text_cmp e.0 c.args.row.0) (always_returns_same _ _ _ (λ a r g called. search rules)) in
    let found = subst (λ rows. IsBinarySearchResult (λ e. text_cmp e.0 c.args.row.0) rows (Ok c.in-Ok.place))
    c.deref.ensures.value (rw c.in-Ok.is at searched) in
    let inside = subst (λ rows. c.in-Ok.place < length rows) c.deref.ensures.value
    (rw c.in-Ok.is at c.binary_search_by.ensures.bound) in
    put_found c.args.rows.now.items c.args.row.0 c.args.row.1 c.in-Ok.place c.requires found inside

pub returns-in-Ok-clause-rising : goal.returns-in-Ok-clause-rising
returns-in-Ok-clause-rising c =
    subst AreRising (sym (returns-in-Ok-clause-put c))
    (rising_put c.args.rows.now.items c.args.row.0 c.args.row.1 c.requires)

pub returns-in_ok-insert-in-Err-clause-put : goal.returns-in_ok-insert-in-Err-clause-put
returns-in_ok-insert-in-Err-clause-put c =
    let searched = c.binary_search_by.ensures.position
    (λ e. text_cmp e.0 c.args.row.0) (always_returns_same _ _ _ (λ a r g called. search rules)) in
    let found = subst (λ rows. IsBinarySearchResult (λ e. text_cmp e.0 c.args.row.0) rows (Err c.in-Err.place))
    c.deref.ensures.value (rw c.in-Err.is at searched) in
    let within = subst (λ rows. c.in-Err.place ≤ length rows) c.deref.ensures.value
    (rw c.in-Err.is at c.binary_search_by.ensures.bound) in
    c.in_ok-insert-in-Err.ensures.items
    ∙ put_between c.args.rows.now.items c.args.row.0 c.args.row.1 c.in-Err.place c.requires
    found within

pub returns-in_ok-insert-in-Err-clause-rising : goal.returns-in_ok-insert-in-Err-clause-rising
returns-in_ok-insert-in-Err-clause-rising c =
    subst AreRising (sym (returns-in_ok-insert-in-Err-clause-put c))
    (rising_put c.args.rows.now.items c.args.row.0 c.args.row.1 c.requires)
