use Rattle.std.proofs.Common.{suc, ◌-◌, length}
use Rattle.incompatibilities.specs.inner.Rows.{IsGrown}
use Rattle.incompatibilities.proofs.rows.reserve_at.Given as goal

abbrev pub invariant-shorter : goal.invariant-shorter
invariant-shorter g l = IsGrown l.fn.rows.items l.rows.items

abbrev pub decreases-shorter : goal.decreases-shorter
decreases-shorter g l = suc l.vertex - length l.rows.items
