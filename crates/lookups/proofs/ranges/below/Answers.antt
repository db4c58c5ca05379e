use Rattle.std.proofs.Common.{rules}
use Rattle.semver.specs.Identifiers.{parts_of}
use Rattle.classes.specs.Classes.{class_view}
use Rattle.std.proofs.lemmas.List.Sorted.{IsPartitionPoint-from_clause}
use Rattle.lookups.specs.inner.Ranges.{is_below}
use Rattle.lookups.proofs.Pieces.{below_parted}
use Rattle.lookups.proofs.ranges.below.Goals as goal

pub returns-clause-place : goal.returns-clause-place
returns-clause-place c =
    IsPartitionPoint-from_clause (λ v. is_below (class_view c.args.class) (parts_of v)) c.args.versions.now _
    c.partition_point.ensures.partitioned (below_parted (class_view c.args.class) c.args.versions.now c.requires)
    (λ a r g called. search rules)
