use Rattle.std.proofs.Common.{rules}
use Rattle.std.proofs.lemmas.List.Sorted.{IsPartitionPoint-from_clause}
use Rattle.semver.specs.Identifiers.{parts_of}
use Rattle.features.specs.Views.{requirement_view}
use Rattle.catalogue.specs.inner.Bounds.{is_short}
use Rattle.lookups.proofs.Narrowed.{short_parted}
use Rattle.lookups.proofs.narrowing.too_old.Goals as goal

pub returns-clause-place : goal.returns-clause-place
returns-clause-place c =
    let cs = requirement_view c.args.requirement.now in
    IsPartitionPoint-from_clause (λ v. is_short cs (parts_of v)) c.args.versions.now _
    c.partition_point.ensures.partitioned (short_parted cs c.args.versions.now c.requires)
    (λ a r g called. search rules)
