use Rattle.std.proofs.Common.{map, get_or, slice_get, sym, ap, ◌∙◌}
use Rattle.std.proofs.lemmas.Option.{slice_get-map}
use Rattle.semver.specs.Identifiers.{parts_of}
use Rattle.features.specs.Views.{requirement_view}
use Rattle.catalogue.proofs.Rows.{item_at}
use Rattle.selection.specs.inner.Met.{is_matched}
use Rattle.selection.proofs.Picks.{find_yes, find_no}
use Rattle.selection.proofs.picking.first_matched.Goals as goal

pub returns-then-is_matched : goal.returns-then-is_matched
returns-then-is_matched c =
    let req = requirement_view c.args.requirement.now in
    let vs = c.args.versions.now in
    let n = get_or c.args.order.now c.order.place-index 0 in
    let seen = ap (is_matched req)
    (slice_get-map parts_of vs n ∙ sym (item_at parts_of vs n c.get.result c.get.ensures.lookup))
    ∙ sym c.is_matched.ensures ∙ c.if-is_matched.true in
    sym (find_yes (λ n. is_matched req (slice_get (map parts_of vs) n)) c.args.order.now c.order.place-index
    c.order-test.true seen) ∙ c.order.invariant

pub order-preserved : goal.order-preserved
order-preserved c =
    let req = requirement_view c.args.requirement.now in
    let vs = c.args.versions.now in
    let n = get_or c.args.order.now c.order.place-index 0 in
    let seen = ap (is_matched req)
    (slice_get-map parts_of vs n ∙ sym (item_at parts_of vs n c.get.result c.get.ensures.lookup))
    ∙ sym c.is_matched.ensures ∙ c.if-is_matched.false in
    sym (find_no (λ n. is_matched req (slice_get (map parts_of vs) n)) c.args.order.now c.order.place-index
    c.order-test.true seen) ∙ c.order.invariant
