use Rattle.classes.specs.Classes.{class_view}
use Rattle.catalogue.specs.Stores.{candidates_at}
use Rattle.lookups.proofs.Pieces.{said_between}
use Rattle.lookups.proofs.ranges.class_candidates.Goals as goal

pub returns : goal.returns
returns c =
    said_between (class_view c.args.class) c.versions-versions.result.now c.candidates.result.now
    (candidates_at c.args.catalogue.now c.args.name.now) c.below-first.result c.up_to-count.result
    c.versions-versions.ensures.versions c.candidates.ensures c.below-first.ensures.place c.up_to-count.ensures.few
    c.up_to-count.ensures.place
