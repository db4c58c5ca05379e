use Rattle.std.proofs.Common.{rules}
use Rattle.std.specs.Ordering.{is_lt}
use Rattle.std.proofs.lemmas.List.Sorted.{IsPartitionPoint-from_clause}
use Rattle.model.specs.Order.{text_cmp}
use Rattle.facts.specs.inner.ByName.{name_of}
use Rattle.facts.proofs.ByName.{before_parted}
use Rattle.facts.proofs.rules.before.Goals as goal

pub returns-clause-place : goal.returns-clause-place
returns-clause-place c =
    IsPartitionPoint-from_clause (λ l. is_lt (text_cmp (name_of l) c.args.name.now)) c.args.links.now _
    c.partition_point.ensures.partitioned (before_parted name_of c.args.links.now c.args.name.now c.requires)
    (λ a r g called. search rules)
