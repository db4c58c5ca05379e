use Rattle.classes.specs.Classes.{class_view}
use Rattle.lookups.proofs.Pieces.{piece_is}
use Rattle.lookups.proofs.ranges.of_class.Goals as goal

pub returns : goal.returns
returns c =
    piece_is (class_view c.args.class) c.args.versions.now c.below.result c.up_to.result c.below.ensures.place
    c.up_to.ensures.few c.up_to.ensures.place
