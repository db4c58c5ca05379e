use Rattle.std.proofs.Common.{rules}
use Rattle.std.specs.Ordering.{is_lt}
use Rattle.std.proofs.lemmas.Cmp.{is_lt_index}
use Rattle.std.proofs.lemmas.List.Sorted.{IsPartitionPoint-from_clause}
use Rattle.lockfile.proofs.Ranges.{order_to, less-partitioned, wanted-twice, wanted-there, wanted-nowhere}
use Rattle.lockfile.proofs.meaning.only_place.Goals as goal

pub returns-then-next : goal.returns-then-next
returns-then-next c =
    let w = c.args.wanted in
    let ps = c.args.packages.now in
    let first =
    IsPartitionPoint-from_clause (λ p. is_lt (order_to w p)) ps _ c.partition_point-first.ensures.partitioned
    (less-partitioned w ps c.requires) (λ a r g called. search (rules, is_lt_index)) in
    wanted-twice w ps _ _ _ c.requires first (c.is_wanted_at-here.ensures, c.is_wanted_at-next.ensures) c.if-next.true

pub returns-then-here : goal.returns-then-here
returns-then-here c =
    let w = c.args.wanted in
    let ps = c.args.packages.now in
    let first =
    IsPartitionPoint-from_clause (λ p. is_lt (order_to w p)) ps _ c.partition_point-first.ensures.partitioned
    (less-partitioned w ps c.requires) (λ a r g called. search (rules, is_lt_index)) in
    wanted-there w ps _ _ _ c.requires first
    (c.is_wanted_at-here.ensures, c.is_wanted_at-next.ensures) c.if-here.true c.if-next.false

pub returns-else-here : goal.returns-else-here
returns-else-here c =
    let w = c.args.wanted in
    let ps = c.args.packages.now in
    let first =
    IsPartitionPoint-from_clause (λ p. is_lt (order_to w p)) ps _ c.partition_point-first.ensures.partitioned
    (less-partitioned w ps c.requires) (λ a r g called. search (rules, is_lt_index)) in
    wanted-nowhere w ps _ _ _ c.requires first
    (c.is_wanted_at-here.ensures, c.is_wanted_at-next.ensures) c.if-here.false
