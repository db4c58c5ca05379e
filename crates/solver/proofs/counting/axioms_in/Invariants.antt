use Rattle.std.proofs.Common.{◌≡◌, take}
use Rattle.incompatibilities.specs.inner.Counts.{axioms}
use Rattle.incompatibilities.specs.Stores.{entries_view}
use Rattle.solver.proofs.counting.axioms_in.Given as goal

-- the axioms among the entries so far
abbrev pub invariant-entries : goal.invariant-entries
invariant-entries g l = l.count ≡ axioms (take l.place (entries_view g.S.States.tests l.store))
