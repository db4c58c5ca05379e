use Rattle.std.proofs.Common.{arith, rules}
use Rattle.incompatibilities.specs.Stores.{entries_view}
use Rattle.solver.proofs.Marks.{starts, visited_one}
use Rattle.solver.proofs.marking.marked.Goals as goal

pub entries-init : goal.entries-init
entries-init g c =
    starts (entries_view g.S.States.tests c.args.store.now) c.args.last c.len-left.result c.push.new.self.items
    (search rules) (search rules)

pub entries-preserved : goal.entries-preserved
entries-preserved g c =
    visited_one (entries_view g.S.States.tests c.args.store.now) c.args.last c.entries.left _ c.entries.marks.items _
    c.entries.invariant (omega (arith, c.entries-test.true)) c.visit.ensures.marks c.visit.ensures.fits
