use Rattle.std.proofs.Common.{map}
use Rattle.semver.specs.Identifiers.{parts_of}
use Rattle.features.specs.Views.{requirement_view}
use Rattle.selection.proofs.RunSearch.{narrowed}
use Rattle.selection.proofs.picking.within.Goals as goal

pub returns : goal.returns
returns c =
    narrowed (requirement_view c.args.requirement.now) (map parts_of c.args.versions.now) c.args.run.now
    c.too_new.result c.new_enough.result c.too_new.ensures.place c.new_enough.ensures.place
