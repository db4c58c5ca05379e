use Rattle.std.proofs.Common.{Some, sym, ap, ◌∙◌, subst}
use Rattle.std.specs.HashMap.{Updates}
use Rattle.std.specs.Option.{option_copied}
use Rattle.model.specs.Summary.{same_text}
use Rattle.selection.specs.inner.Met.{AreRuns, order_at}
use Rattle.selection.proofs.RunSearch.{more_orders}
use Rattle.selection.proofs.picking.pick.Goals as goal

pub pick_by-requires : goal.pick_by-requires
pick_by-requires c =
    let name = c.args.dependency.now.real_name in
    subst (AreRuns (order_at c.args.catalogue.now name)) (sym c.as_slice.ensures.value)
    (c.requires name c.in-Some.runs.now (sym (sym (ap option_copied c.in-Some.is) ∙ c.get.ensures.value)))

pub returns-clause-orders : goal.returns-clause-orders
returns-clause-orders c =
    let name = c.args.dependency.now.real_name in
    more_orders c.args.catalogue.now c.args.orders.now c.insert.new.self name c.in_ok-runs.runs c.requires
    (subst (λ n. Updates same_text c.args.orders.now c.insert.new.self n (Some c.in_ok-runs.runs))
    c.in_ok-name.ensures.cases c.in_ok-insert.ensures.updates)
    (subst (λ order. AreRuns order c.in_ok-runs.runs.items)
    (c.as_slice-2.ensures.value ∙ c.in_ok-order.ensures.places) c.in_ok-runs.ensures)
