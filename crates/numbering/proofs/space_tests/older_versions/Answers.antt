use Rattle.std.proofs.Common.{rules}
use Rattle.std.specs.Ordering.{is_lt}
use Rattle.semver.specs.Identifiers.{parts_of}
use Rattle.std.proofs.lemmas.List.Sorted.{IsPartitionPoint-from_clause}
use Rattle.model.specs.Order.{precedence}
use Rattle.numbering.proofs.Alone.{older_parted}
use Rattle.numbering.proofs.space_tests.older_versions.Goals as goal

pub returns-clause-place : goal.returns-clause-place
returns-clause-place c =
    IsPartitionPoint-from_clause (λ w. is_lt (precedence (parts_of w) (parts_of c.args.chosen.now)))
    c.args.versions.now _ c.partition_point.ensures.partitioned
    (older_parted (parts_of c.args.chosen.now) c.args.versions.now c.requires) (λ a r g called. search rules)
