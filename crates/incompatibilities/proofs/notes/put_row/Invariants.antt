use Rattle.std.proofs.Common.{suc, ◌-◌, length}
use Rattle.incompatibilities.proofs.notes.put_row.Given as goal

abbrev pub decreases-shorter : goal.decreases-shorter
decreases-shorter l = suc l.vertex - length l.rows.items
