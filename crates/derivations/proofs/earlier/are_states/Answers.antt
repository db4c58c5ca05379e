use Rattle.std.proofs.Common.{◌<◌, arith, get_or, length}
use Rattle.model.specs.Vertices.{absent}
use Rattle.vertices.specs.inner.RefViews.{state_ref_view}
use Rattle.derivations.proofs.EarlierLaws.{states-next}
use Rattle.derivations.proofs.TableLaws.{found-at}
use Rattle.derivations.proofs.earlier.are_states.Goals as goal

pub numbers-preserved : goal.numbers-preserved
numbers-preserved c =
    let i = c.numbers.index in
    let s = c.index-states-index.result in
    let below = c.numbers-test.true in
    let same = c.if-states-numbers.false in
    let under : i < length c.args.states.now = omega arith in
    let there = found-at c.args.tables.now.states (get_or c.args.numbers.now i 0) (state_ref_view s) absent
    (c.has_at.ensures c.if-not-has_at.false) in
    states-next c.args.tables.now c.args.numbers.now c.args.states.now i s below under c.index-states-index.is
    there.1 c.numbers.invariant
