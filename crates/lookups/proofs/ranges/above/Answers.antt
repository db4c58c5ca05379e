use Rattle.classes.specs.Classes.{class_view}
use Rattle.lookups.proofs.Pieces.{above_is}
use Rattle.lookups.proofs.ranges.above.Goals as goal

pub returns : goal.returns
returns c = above_is (class_view c.args.class) c.args.versions.now c.up_to.result c.up_to.ensures.place
