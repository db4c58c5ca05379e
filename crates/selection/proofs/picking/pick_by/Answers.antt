use Rattle.std.proofs.Common.{ap₂, ◌∙◌}
use Rattle.features.specs.Views.{requirement_view}
use Rattle.selection.specs.inner.Met.{first_matched}
use Rattle.selection.proofs.picking.pick_by.Goals as goal

pub returns : goal.returns
returns c =
    (rw c.deref.ensures at c.first_of_runs.ensures)
    ∙ ap₂ (first_matched (requirement_view c.args.dependency.now.requirement))
    c.versions-versions.ensures.versions c.requires.joined
