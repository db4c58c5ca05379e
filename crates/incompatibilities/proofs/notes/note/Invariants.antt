use Rattle.std.proofs.Common.{suc, ◌-◌, length}
use Rattle.incompatibilities.proofs.notes.note.Given as goal

abbrev pub decreases-shorter : goal.decreases-shorter
decreases-shorter l = suc l.at - length l.places.items
