use Rattle.std.proofs.Common.{not, rules}
use Rattle.semver.specs.Identifiers.{parts_of}
use Rattle.classes.specs.Classes.{class_view}
use Rattle.std.proofs.lemmas.List.Sorted.{IsPartitionPoint-from_clause}
use Rattle.lookups.specs.inner.Ranges.{is_above}
use Rattle.lookups.proofs.Pieces.{above_parted}
use Rattle.lookups.proofs.ranges.up_to.Goals as goal

pub returns-clause-place : goal.returns-clause-place
returns-clause-place c =
    IsPartitionPoint-from_clause (λ v. not (is_above (class_view c.args.class) (parts_of v))) c.args.versions.now _
    c.partition_point.ensures.partitioned (above_parted (class_view c.args.class) c.args.versions.now c.requires)
    (λ a r g called. search rules)
