use Rattle.std.proofs.Common.{rules}
use Rattle.std.proofs.lemmas.List.Sorted.{IsPartitionPoint-from_clause}
use Rattle.model.specs.Axioms.{is_lower}
use Rattle.classes.specs.Classes.{class_view}
use Rattle.lookups.proofs.Runs.{lower_parted}
use Rattle.lookups.proofs.classes_in.lower_classes.Goals as goal

pub returns-clause-place : goal.returns-clause-place
returns-clause-place c =
    let k = class_view c.args.class in
    IsPartitionPoint-from_clause (λ other. is_lower (class_view other) k) c.args.classes.now _
    c.partition_point.ensures.partitioned (lower_parted k c.args.classes.now c.requires)
    (λ a r g called. search rules)
