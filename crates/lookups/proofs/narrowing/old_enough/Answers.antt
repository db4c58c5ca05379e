use Rattle.std.proofs.Common.{not, rules}
use Rattle.std.proofs.lemmas.List.Sorted.{IsPartitionPoint-from_clause}
use Rattle.semver.specs.Identifiers.{parts_of}
use Rattle.features.specs.Views.{requirement_view}
use Rattle.catalogue.specs.inner.Bounds.{is_beyond}
use Rattle.lookups.proofs.Narrowed.{beyond_parted}
use Rattle.lookups.proofs.narrowing.old_enough.Goals as goal

pub returns-clause-place : goal.returns-clause-place
returns-clause-place c =
    let cs = requirement_view c.args.requirement.now in
    IsPartitionPoint-from_clause (λ v. not (is_beyond cs (parts_of v))) c.args.versions.now _
    c.partition_point.ensures.partitioned (beyond_parted cs c.args.versions.now c.requires)
    (λ a r g called. search rules)
