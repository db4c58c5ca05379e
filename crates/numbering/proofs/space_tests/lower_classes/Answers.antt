use Rattle.std.proofs.Common.{rules}
use Rattle.classes.specs.Classes.{class_view}
use Rattle.std.proofs.lemmas.List.Sorted.{IsPartitionPoint-from_clause}
use Rattle.model.specs.Axioms.{is_lower}
use Rattle.numbering.proofs.Alone.{lower_parted}
use Rattle.numbering.proofs.space_tests.lower_classes.Goals as goal

pub returns-clause-place : goal.returns-clause-place
returns-clause-place c =
    IsPartitionPoint-from_clause (λ k. is_lower (class_view k) (class_view c.args.class)) c.args.classes.now _
    c.partition_point.ensures.partitioned (lower_parted (class_view c.args.class) c.args.classes.now c.requires)
    (λ a r g called. search rules)
