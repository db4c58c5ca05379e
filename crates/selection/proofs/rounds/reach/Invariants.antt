use Rattle.selection.specs.inner.Contents.{AreMetVersions}
use Rattle.selection.specs.inner.Met.{AreOrders}
use Rattle.selection.proofs.rounds.reach.Given as goal

-- each of those met so far is there once; the orders that are kept are right
abbrev pub invariant-rounds : goal.invariant-rounds
invariant-rounds l = AreMetVersions l.catalogue l.versions.keys × AreOrders l.catalogue l.orders
