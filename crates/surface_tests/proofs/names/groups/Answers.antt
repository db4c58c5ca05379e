use Rattle.numbering.proofs.Grouped.{oldest_first}
use Rattle.surface_tests.proofs.names.groups.Goals as goal

pub matching-requires-clause-oldest_first : goal.matching-requires-clause-oldest_first
matching-requires-clause-oldest_first c = oldest_first c.args.versions.now c.requires.rising
