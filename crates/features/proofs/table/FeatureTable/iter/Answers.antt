use Rattle.std.proofs.Common.{subst}
use Rattle.model.specs.Tables.{IsInOrder}
use Rattle.features.proofs.PlaceLemmas.{rows_in_order}
use Rattle.features.proofs.table.FeatureTable.iter.Goals as goal

pub returns-clause-order : goal.returns-clause-order
returns-clause-order c =
    subst IsInOrder c.self.view_is (rows_in_order c.self.inside.features.value.items c.self.invariant)
