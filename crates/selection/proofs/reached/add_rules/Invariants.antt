use Rattle.std.proofs.Common.{◌≡◌, ◌++◌, take}
use Rattle.selection.specs.inner.Places.{rules_at}
use Rattle.selection.proofs.reached.add_rules.Given as goal

-- the rules so far
abbrev pub invariant-listed : goal.invariant-listed
invariant-listed l = l.rules.items ≡ l.fn.rules.items ++ rules_at l.at (take l.place-index l.list)
