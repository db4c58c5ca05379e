use Rattle.std.proofs.Common.{ap, arith, ◌∙◌}
use Rattle.incompatibilities.specs.Stores.{entries_view, entry}
use Rattle.solver.proofs.Axioms.{counted, counted_le}
use Rattle.solver.proofs.counting.axioms_in.Goals as goal

pub entries-preserved : goal.entries-preserved
entries-preserved g c =
    let es = entries_view g.S.States.tests c.args.store.now in
    let n = c.entries.place in
    counted es n c.entries.count c.given_in-count.result c.origin.result.now
    (omega (arith, c.entries-test.true, c.len-place-end.ensures)) c.entries.invariant
    (c.origin.ensures.value ∙ ap (λ k. (entry es k).origin) c.new.ensures) c.given_in-count.ensures

pub overflow_add-count : goal.overflow_add-count
overflow_add-count g c =
    let es = entries_view g.S.States.tests c.args.store.now in
    let n = c.entries.place in
    let few = counted_le es n c.entries.count c.given_in-count.result c.origin.result.now
    (omega (arith, c.entries-test.true, c.len-place-end.ensures)) c.entries.invariant
    (c.origin.ensures.value ∙ ap (λ k. (entry es k).origin) c.new.ensures) c.given_in-count.ensures in
    omega (arith, few, c.entries-test.true, c.len-place-end.type_inv)
