use Rattle.std.proofs.Common.{map}
use Rattle.features.specs.Views.{requirement_view}
use Rattle.semver.specs.Identifiers.{parts_of}
use Rattle.classes.proofs.GroupLemmas.{passed}
use Rattle.classes.proofs.grouping.matching.Goals as goal

pub returns : goal.returns
returns c = let same =
    passed (requirement_view c.args.requirement.now) (map parts_of c.args.versions.now) c.requires.oldest_first in
    rw (← same) c.grouped.ensures
