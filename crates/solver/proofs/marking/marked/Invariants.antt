use Rattle.std.proofs.Common.{◌≤◌, suc}
use Rattle.incompatibilities.specs.Stores.{entries_view}
use Rattle.solver.specs.inner.Marks.{IsMarking}
use Rattle.solver.proofs.marking.marked.Given as goal

abbrev pub invariant-entries : goal.invariant-entries
invariant-entries g l =
    IsMarking (entries_view g.S.States.tests l.store) l.last l.left l.marks.items × (l.left ≤ suc l.last)

abbrev pub decreases-entries : goal.decreases-entries
decreases-entries g l = l.left
