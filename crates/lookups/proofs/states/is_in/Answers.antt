use Rattle.std.proofs.Common.{◌∙◌, sym, rules}
use Rattle.std.proofs.lemmas.Fn.{always_returns_same}
use Rattle.vertices.specs.Orders.{state_cmp}
use Rattle.vertices.specs.inner.RefViews.{state_ref_view}
use Rattle.lookups.proofs.Searching.{state_ends, state_finds}
use Rattle.lookups.proofs.states.is_in.Goals as goal

pub returns-in-Ok : goal.returns-in-Ok
returns-in-Ok c =
    let searched =
    c.binary_search_by.ensures.position (λ s. state_cmp (state_ref_view s) (state_ref_view c.args.sought.now))
    (always_returns_same _ _ _ (λ a r g called. search rules)) in
    c.same_state.ensures ∙ state_finds c.args.states.now (state_ref_view c.args.sought.now) c.requires c.in-Ok.place
    (rw c.in-Ok.is at searched) (rw c.in-Ok.is at c.binary_search_by.ensures.bound) c.index-states-place.result
    (sym c.index-states-place.is)

pub returns-in-Err : goal.returns-in-Err
returns-in-Err c =
    let searched =
    c.binary_search_by.ensures.position (λ s. state_cmp (state_ref_view s) (state_ref_view c.args.sought.now))
    (always_returns_same _ _ _ (λ a r g called. search rules)) in
    state_ends c.args.states.now (state_ref_view c.args.sought.now) c.requires _ (rw c.in-Err.is at searched)
