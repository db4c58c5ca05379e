use Rattle.std.proofs.Common.{arith, length}
use Rattle.incompatibilities.specs.Stores.{entries_view}
use Rattle.solver.proofs.Marks.{parts_below}
use Rattle.solver.proofs.marking.visit.Goals as goal

pub mark_parts-requires : goal.mark_parts-requires
mark_parts-requires g c = parts_below (entries_view g.S.States.tests c.args.store.now) c.new.result
    (length c.args.marks.now.items) c.origin.result.now c.origin.ensures.fits
    (omega (arith, c.new.ensures, c.requires.marked))
