use Rattle.features.specs.EntryViews.{entry_view}
use Rattle.manifest.specs.Shapes.{entries_in}
use Rattle.std.proofs.Common.{arith}
use Rattle.std.proofs.lemmas.Grind.{common_steps}
use Rattle.model.proofs.Fronts.{pushed}
use Rattle.manifest.proofs.feature.entries.Goals as goal

pub items-preserved : goal.items-preserved
unfolding entries_in
items-preserved c =
    pushed entry_view _ _ _ _ _ _ c.in_ok-push.ensures.items c.in_ok-entry.ensures (grind (arith, common_steps))
