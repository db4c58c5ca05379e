use Rattle.std.proofs.Common.{rules}
use Rattle.std.proofs.lemmas.List.Sorted.{IsPartitionPoint-from_clause}
use Rattle.classes.specs.Classes.{class_view}
use Rattle.lockfile.specs.inner.Views.{package_view}
use Rattle.guiding.specs.inner.Found.{is_before}
use Rattle.guiding.proofs.Named.{before_parted}
use Rattle.guiding.proofs.in_content.before_class.Goals as goal

pub returns-clause-place : goal.returns-clause-place
returns-clause-place c =
    let k = class_view c.args.class in
    IsPartitionPoint-from_clause (λ p. is_before c.args.name.now k (package_view p)) c.args.content.now _
    c.partition_point.ensures.partitioned (before_parted c.args.name.now k c.args.content.now c.requires)
    (λ a r g called. search rules)
