use Rattle.std.proofs.Common.{◌+◌, ◌≤◌, ◌⊎◌, take}
use Rattle.incompatibilities.specs.Stores.{entries_view}
use Rattle.propagation.specs.Promises.{most}
use Rattle.incompatibilities.specs.inner.Counts.{combinations}
use Rattle.guiding.proofs.turns.with_conflict.Given as goal

abbrev pub invariant-gained : goal.invariant-gained
invariant-gained g l = let es = entries_view g.S.States.tests l.store in record {
  counted : (combinations (take l.place es) + l.fn.steps ≤ l.count + combinations (take l.from es)) ⊎ (most ≤ l.count);
  more : l.fn.steps ≤ l.count;
}
